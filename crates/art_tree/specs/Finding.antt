-- A leaf that was found in a tree, with the path to it. No public clause cites it.
use Rattle.std.specs.Prelude.{◌≡◌, ℕ, List, Option, Some, None}
use Rattle.art_nodes.specs.declared.pointers.OpaqueNodePtr.{OpaqueNodePtr}
use Rattle.art_arena.specs.Arena.{LeafPtr, NodeArena}
use Rattle.art_arena.specs.Trees.{Tree}
use Rattle.art_arena.specs.declared.ends.End.{End}
use Rattle.art_steps.specs.Art.{Art, IsAlone}
use Rattle.art_steps.specs.Dictionary.{IsEmpty, entry_at}
use Rattle.art_tree.specs.Dropping.{IsAtPath}
use Rattle.art_steps.specs.Ends.{EndMeets}
use Rattle.art_search.specs.Search.{leaf_pointer}
use Rattle.art_search.specs.declared.path.TreePath.{TreePath}

module _ {K V : Type 0} {P : ℕ} (text : K → List ℕ) where
  -- the leaf with this text is at the end of this path in the one tree of an arena, which stands at the root
  pub record ReachesLeaf (arena : NodeArena K V P) (root : OpaqueNodePtr K V P) (leaf : LeafPtr K V P) (path : TreePath K V P) (x : List ℕ) : Type 0 where
    pub tree : Tree (OpaqueNodePtr K V P)
    pub alone : IsAlone text arena root tree
    pub at_path : IsAtPath tree (leaf_pointer leaf) path x

  -- the same in a tree with its arena
  pub record IsLeafOf (art : Art (NodeArena K V P) (OpaqueNodePtr K V P)) (leaf : LeafPtr K V P) (path : TreePath K V P) (x : List ℕ) : Type 0 where
    pub root : OpaqueNodePtr K V P
    pub is_root : art.root ≡ Some root
    pub reaches : ReachesLeaf art.arena root leaf path x

  -- the leaf with a text was found, or there is none
  abbrev pub IsFound : Art (NodeArena K V P) (OpaqueNodePtr K V P) → List ℕ → Option (LeafPtr K V P × TreePath K V P) → Type 0
  IsFound art x None = entry_at text art.arena x ≡ None
  IsFound art x (Some (leaf, path)) = IsLeafOf art leaf path x

  -- the leaf of the entry at one end was found, or there is no entry
  abbrev pub IsEndFound : Art (NodeArena K V P) (OpaqueNodePtr K V P) → End → Option (LeafPtr K V P × TreePath K V P) → Type 0
  IsEndFound art end None = IsEmpty text art.arena
  IsEndFound art end (Some (leaf, path)) = EndMeets text art.arena end (IsLeafOf art leaf path)
