-- Compaction: the leaves of a tree, and the tree of the same entries. No public clause cites it.
use Rattle.std.specs.Prelude.{◌≡◌, ℕ, List, map, Some}
use Rattle.art_nodes.specs.declared.pointers.OpaqueNodePtr.{OpaqueNodePtr}
use Rattle.art_arena.specs.Arena.{LeafPtr, NodeArena}
use Rattle.art_arena.specs.Trees.{Tree}
use Rattle.art_steps.specs.Art.{IsAlone, IsArt}
use Rattle.art_steps.specs.Dictionary.{SameEntries}
use Rattle.art_steps.specs.Loading.{leaf_pointers}
use Rattle.art_search.specs.Search.{leaf_pointer}

module _ {K V : Type 0} {P : ℕ} (text : K → List ℕ) where
  -- these are the leaves of the tree at the root, from left to right
  pub record AreLeavesOf (arena : NodeArena K V P) (root : OpaqueNodePtr K V P) (of : List (LeafPtr K V P)) : Type 0 where
    pub tree : Tree (OpaqueNodePtr K V P)
    pub alone : IsAlone text arena root tree
    pub in_order : leaf_pointers tree ≡ map leaf_pointer of

  -- the new arena has the tree of the same entries, and nothing else
  pub record IsReloaded (old new : NodeArena K V P) (root : OpaqueNodePtr K V P) : Type 0 where
    pub art : IsArt text new (Some root)
    pub same : SameEntries text old new
