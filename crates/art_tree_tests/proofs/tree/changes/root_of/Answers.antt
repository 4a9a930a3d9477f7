use Rattle.std.proofs.Common.{◌≡◌, ℕ, List, Option, Some, None, IfSome, subst, sym}
use Rattle.art_nodes.specs.declared.pointers.OpaqueNodePtr.{OpaqueNodePtr}
use Rattle.art_arena.specs.Arena.{NodeArena}
use Rattle.art_steps.specs.Art.{IsArt}
use Rattle.art_search.specs.Search.{HasTree}
use Rattle.art_tree_tests.proofs.tree.changes.root_of.Goals as goal

-- at the root of one tree a tree stands
pub stands_at_root : {K V : Type 0} {P : ℕ} (text : K → List ℕ) (arena : NodeArena K V P) (root : Option (OpaqueNodePtr K V P)) → IsArt text arena root → IfSome root (HasTree text arena)
stands_at_root text arena (Some root) one = (one.0, one.1.is_tree)
stands_at_root text arena None one = tt

-- and so it does at what is that root
pub stands_at : {K V : Type 0} {P : ℕ} (text : K → List ℕ) (arena : NodeArena K V P) (root found : Option (OpaqueNodePtr K V P)) → found ≡ root → IsArt text arena root → IfSome found (HasTree text arena)
stands_at text arena root found same one = subst (λ root. IfSome root (HasTree text arena)) (sym same) (stands_at_root text arena root one)

pub returns : goal.returns
returns g c =
    stands_at _ c.args.tree.now.arena c.args.tree.now.root c.root.result c.root.ensures.root c.root.ensures.one_tree
