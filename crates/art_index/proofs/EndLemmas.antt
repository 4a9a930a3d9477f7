-- A leaf as a tree: it is at both of its ends.
use Rattle.std.specs.Prelude.{Option}
use Rattle.std.proofs.Common.{◌≡◌, ◌∙◌, ℕ, List, [], ◌∷◌, Some, None, refl, sym, ap, subst}
use Rattle.art_header.specs.declared.node_type.NodeType.TheVariants as kinds
use Rattle.art_nodes.specs.Inner as nodes
use Rattle.art_nodes.specs.declared.pointers.OpaqueNodePtr.{OpaqueNodePtr}
use Rattle.art_nodes.specs.Pointers.{node_kind, opaque_key}
use Rattle.art_arena.specs.Arena.{NodeArena, HeldInner, held_leaf, held_under}
use Rattle.art_arena.specs.Ends.{IsAtEnd}
use Rattle.art_arena.specs.Standing.{StandsIn, TreeAt}
use Rattle.art_arena.specs.Trees.{Tree, Leaf, Inner, leaves, root_of}
use Rattle.art_arena.specs.declared.ends.End.{End}
use Rattle.art_arena.specs.declared.ends.End.TheVariants.{First, Last}

-- a slot of leaves holds no inner node
no-inner : {H L : Type 0} (slot : Option L) (node : nodes.Inner H) → held_leaf {H = H} slot ≡ HeldInner node → ⊥
no-inner None node is = cc
no-inner (Some leaf) node is = cc

module _ {K V : Type 0} {P : ℕ} (text : K → List ℕ) (arena : NodeArena K V P) where
  -- where a tree stands at a leaf, the leaf is at both of its ends
  pub leaf-at-ends : (at : OpaqueNodePtr K V P) (found : TreeAt text arena at) → node_kind at ≡ kinds.Leaf → (end : End) → IsAtEnd end (leaves found.tree) at
  leaf-at-ends at found kind end = by_tree found.tree found.at_root found.stands
    where
      alone : (p : OpaqueNodePtr K V P) (y : List ℕ) (end : End) → IsAtEnd end ((p, y) ∷ []) p
      alone p y First = (y, [], refl)
      alone p y Last = (y, [], refl)

      by_tree : (tree : Tree (OpaqueNodePtr K V P)) → root_of tree ≡ at → StandsIn text arena tree → IsAtEnd end (leaves tree) at
      by_tree (Leaf p y) root stands = subst (λ q. IsAtEnd end ((p, y) ∷ []) q) root (alone p y end)
      by_tree (Inner p prefix branches) root (own, holds, shows, stand) =
          let under : held_under arena kinds.Leaf (opaque_key p) ≡ HeldInner own = sym (ap (λ k. held_under arena k (opaque_key p)) (ap node_kind root ∙ kind)) ∙ holds in
          absurd (no-inner _ own under)
