-- Removal: the place of the leaf in its tree. No public clause cites it.
use Rattle.std.specs.Prelude.{◌≡◌, ◌≢◌, ◌≤◌, ℕ, List, [], ◌∷◌, ◌++◌, Option}
use Rattle.art_header.specs.declared.node_type.NodeType.{NodeType}
use Rattle.art_header.specs.declared.node_type.NodeType.TheVariants as kinds
use Rattle.art_nodes.specs.Leaf.{leaf_key, leaf_value}
use Rattle.art_nodes.specs.Pointers.{opaque_key}
use Rattle.art_nodes.specs.declared.leaf_node.LeafNode.{LeafNode}
use Rattle.art_nodes.specs.declared.pointers.OpaqueNodePtr.{OpaqueNodePtr}
use Rattle.art_arena.specs.Arena.{NodeArena, HeldLeaf, Nothing, held, room}
use Rattle.art_arena.specs.Links.{IsLinkedList}
use Rattle.art_arena.specs.Trees.{Tree, Leaf, Inner, Branches, Branch}
use Rattle.art_steps.specs.Contexts.{Context, Whole, Under, plug, join}
use Rattle.art_steps.specs.Edits.{StaysAt}
use Rattle.art_links.specs.Nodes.{FreesOne}
use Rattle.art_search.specs.Paths.{Steps, path_of}
use Rattle.art_steps.specs.Places.{above}
use Rattle.art_search.specs.declared.path.TreePath.{TreePath}
use Rattle.art_tree.specs.declared.remove.LeafSpot.{LeafSpot}

-- the inner nodes above a place from the root down, each with the byte that is taken from it
abbrev pub steps_to : {H : Type 0} → Context H → List (H × ℕ)
steps_to Whole = []
steps_to (Under above pointer prefix before byte after) = steps_to above ++ (pointer, byte) ∷ []

-- the place of a leaf in a tree, to which these steps lead
pub record HasLeafAt {H : Type 0} (tree : Tree H) (steps : List (H × ℕ)) (pointer : H) : Type 0 where
  pub context : Context H
  pub text : List ℕ
  pub whole : plug context (Leaf pointer text) ≡ tree
  pub same : steps_to context ≡ steps

-- the leaf with this text is at the end of this path in the tree
abbrev pub IsAtPath : {K V : Type 0} {P : ℕ} → Tree (OpaqueNodePtr K V P) → OpaqueNodePtr K V P → TreePath K V P → List ℕ → Type 0
IsAtPath {K = K} {V = V} {P = P} tree pointer path x =
    (steps : Steps K V P) × (leaf : HasLeafAt tree steps pointer) × (leaf.text ≡ x) × (path ≡ path_of steps)

-- the leaf is the child of its parent under this byte, and the parent that of its parent under this
-- one, if it is not the root
pub record HasParents {H : Type 0} (tree : Tree H) (pointer parent : H) (byte : ℕ) (higher : Option (H × ℕ)) : Type 0 where
  pub upper : Context H
  pub prefix : List ℕ
  pub before : Branches H
  pub after : Branches H
  pub text : List ℕ
  pub whole : plug upper (Inner parent prefix (join before (Branch byte (Leaf pointer text) after))) ≡ tree
  pub parent_is : above upper ≡ higher

-- the leaf is at this spot of the tree
abbrev pub IsLeafSpot : {K V : Type 0} {P : ℕ} → Tree (OpaqueNodePtr K V P) → OpaqueNodePtr K V P → LeafSpot K V P → Type 0
IsLeafSpot tree pointer spot = HasParents tree pointer spot.parent spot.byte spot.above

module _ {K V : Type 0} {P : ℕ} where
  -- a leaf that held this entry is gone, from the arena and from each list of leaves; all else stays, and
  -- only the kind of leaves has more room
  pub record IsTaken (old new : NodeArena K V P) (leaf : OpaqueNodePtr K V P) (was : K × V) : Type 0 where
    pub entry : (node : LeafNode K V P) → held old leaf ≡ HeldLeaf node → was ≡ (leaf_key node, leaf_value node)
    pub gone : held new leaf ≡ Nothing
    pub is_linked : (left right : List ℕ) → IsLinkedList old (left ++ opaque_key leaf ∷ right) → IsLinkedList new (left ++ right)
    pub others : (pointer : OpaqueNodePtr K V P) → pointer ≢ leaf → StaysAt old new pointer
    pub room : (kind : NodeType) → room old kind ≤ room new kind
    pub frees : FreesOne old new kinds.Leaf
