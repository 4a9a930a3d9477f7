-- Trees with one subtree left out, and arenas in which that subtree is exchanged.
use Rattle.std.specs.Prelude.{◌≡◌, ◌≢◌, ℕ, List, [], ◌∷◌, ◌++◌, Contains, Option, Some, None}
use Rattle.art_nodes.specs.Inner as nodes
use Rattle.art_nodes.specs.Leaf.{leaf_key, leaf_value}
use Rattle.art_nodes.specs.declared.pointers.OpaqueNodePtr.{OpaqueNodePtr}
use Rattle.art_nodes.specs.declared.leaf_node.LeafNode.{LeafNode}
use Rattle.art_arena.specs.Arena.{NodeArena, HeldInner, HeldLeaf, held}
use Rattle.art_arena.specs.Standing.{StandsIn}
use Rattle.art_arena.specs.Trees.{Tree, Inner, Branches, NoBranch, Branch, branch_leaves, places, root_of}

-- the subtree is all there is; or an inner node has it under a byte, between other branches, and the rest is around that node
pub data Context (H : Type 0) : Type 0 where
  Whole : Context H
  Under : Context H → H → List ℕ → Branches H → ℕ → Branches H → Context H

module _ {H : Type 0} where
  -- the branches of both, one list after the other
  abbrev pub join : Branches H → Branches H → Branches H
  join NoBranch more = more
  join (Branch byte tree others) more = Branch byte tree (join others more)

  -- the tree with this subtree in that place
  abbrev pub plug : Context H → Tree H → Tree H
  plug Whole tree = tree
  plug (Under above pointer prefix before byte after) tree = plug above (Inner pointer prefix (join before (Branch byte tree after)))

  -- the path to the place
  abbrev pub path_to : Context H → List ℕ
  path_to Whole = []
  path_to (Under above pointer prefix before byte after) = (path_to above ++ prefix) ++ byte ∷ []

  -- the leaves left of the place
  abbrev pub leaves_before : Context H → List (H × List ℕ)
  leaves_before Whole = []
  leaves_before (Under above pointer prefix before byte after) = leaves_before above ++ branch_leaves before

  -- the leaves right of the place
  abbrev pub leaves_after : Context H → List (H × List ℕ)
  leaves_after Whole = []
  leaves_after (Under above pointer prefix before byte after) = branch_leaves after ++ leaves_after above

  -- the node that has the subtree as a child
  abbrev pub parent : Context H → Option H
  parent Whole = None
  parent (Under above pointer prefix before byte after) = Some pointer

module _ {K V : Type 0} {P : ℕ} (old new : NodeArena K V P) where
  -- this pointer holds what it held, but for the links of a leaf
  pub record KeepsAt (pointer : OpaqueNodePtr K V P) : Type 0 where
    pub inner : (node : nodes.Inner (OpaqueNodePtr K V P)) → held old pointer ≡ HeldInner node →
        held new pointer ≡ HeldInner node
    pub leaf : (leaf : LeafNode K V P) → held old pointer ≡ HeldLeaf leaf →
        (now : LeafNode K V P) × (held new pointer ≡ HeldLeaf now) × (leaf_key now ≡ leaf_key leaf)
        × (leaf_value now ≡ leaf_value leaf)

  -- the node above the place has this child under its byte, and is unchanged otherwise
  abbrev pub Adopts : Context (OpaqueNodePtr K V P) → OpaqueNodePtr K V P → Type 0
  Adopts Whole child = Unit {0}
  Adopts (Under above pointer prefix before byte after) child =
      (node : nodes.Inner (OpaqueNodePtr K V P)) → held old pointer ≡ HeldInner node →
      held new pointer ≡ HeldInner (nodes.node_with_child node byte child)

  -- a subtree is in the place of another under its parent, and all else of the tree is unchanged,
  -- but for the links of leaves
  pub record IsExchanged (text : K → List ℕ) (context : Context (OpaqueNodePtr K V P)) (part now : Tree (OpaqueNodePtr K V P)) : Type 0 where
    pub stood : StandsIn text old (plug context part)
    pub stands : StandsIn text new now
    pub adopted : Adopts context (root_of now)
    pub others : (pointer : OpaqueNodePtr K V P) → Contains (places (plug context part)) pointer →
        ¬ Contains (places part) pointer → parent context ≢ Some pointer → KeepsAt pointer
