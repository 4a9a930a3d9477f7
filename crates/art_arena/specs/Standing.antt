-- Trees that stand in an arena: each of their pointers holds its node.
use Rattle.std.specs.Prelude.{◌≡◌, ℕ, List, length, take, Contains}
use Rattle.art_header.specs.Header.{capped}
use Rattle.art_header.specs.declared.node_type.NodeType.TheVariants as NodeType
use Rattle.art_nodes.specs.Inner as nodes
use Rattle.art_nodes.specs.Leaf.{leaf_key}
use Rattle.art_nodes.specs.Pointers.{slab_key, opaque_pointer}
use Rattle.art_nodes.specs.declared.pointers.OpaqueNodePtr.{OpaqueNodePtr}
use Rattle.art_nodes.specs.declared.leaf_node.LeafNode.{LeafNode}
use Rattle.art_arena.specs.Arena.{LeafPtr, NodeArena, Held, HeldInner, HeldLeaf, held}
use Rattle.art_arena.specs.Trees.{Tree, Leaf, Inner, Branches, NoBranch, Branch, root_of, branch_roots, leaves, IsSound, IsWellFormed}

-- the node has this prefix, as far as it stores it, and these branches as its children
pub record NodeStands {H : Type 0} (room : ℕ) (node : nodes.Inner H) (prefix : List ℕ) (branches : Branches H) : Type 0 where
  pub prefix_len : node.prefix_len ≡ length prefix
  pub stored : node.stored ≡ take (capped room (length prefix)) prefix
  pub children : node.children ≡ branch_roots branches

module _ {H L : Type 0} (room : ℕ) (text_of : L → List ℕ) (held_at : H → Held H L) where
  abbrev mutual
    -- each pointer of the tree holds its node
    pub Stands : Tree H → Type 0
    Stands (Leaf pointer text) = (leaf : L) × (held_at pointer ≡ HeldLeaf leaf) × (text_of leaf ≡ text)
    Stands (Inner pointer prefix branches) =
        (node : nodes.Inner H) × (held_at pointer ≡ HeldInner node) × NodeStands room node prefix branches × AllStand branches

    pub AllStand : Branches H → Type 0
    AllStand NoBranch = Unit {0}
    AllStand (Branch byte tree others) = Stands tree × AllStand others

  -- the same of a tree whose topmost node is given as a value, held or not
  abbrev pub StandsUnder : nodes.Inner H → Tree H → Type 0
  StandsUnder node (Leaf pointer text) = ⊥
  StandsUnder node (Inner pointer prefix branches) = NodeStands room node prefix branches × AllStand branches

-- this points to a leaf of the tree
abbrev pub IsLeafOf : {K V : Type 0} {P : ℕ} → Tree (OpaqueNodePtr K V P) → LeafPtr K V P → Type 0
IsLeafOf tree pointer = (text : List ℕ) × Contains (leaves tree) (opaque_pointer NodeType.Leaf (slab_key pointer), text)

module _ {K V : Type 0} {P : ℕ} (text : K → List ℕ) where
  -- the text of a leaf's key
  abbrev pub leaf_text : LeafNode K V P → List ℕ
  leaf_text leaf = text (leaf_key leaf)

  -- the tree stands in an arena
  abbrev pub StandsIn : NodeArena K V P → Tree (OpaqueNodePtr K V P) → Type 0
  StandsIn arena tree = Stands P leaf_text (held arena) tree

  -- the same of branches
  abbrev pub AllStandIn : NodeArena K V P → Branches (OpaqueNodePtr K V P) → Type 0
  AllStandIn arena branches = AllStand P leaf_text (held arena) branches

  -- a tree of a node given as a value: its branches stand in an arena, and it is sound under a path
  -- of this depth
  pub record TreeUnder (arena : NodeArena K V P) (node : nodes.Inner (OpaqueNodePtr K V P)) (depth : ℕ) : Type 0 where
    pub tree : Tree (OpaqueNodePtr K V P)
    pub path : List ℕ
    pub stands : StandsUnder P leaf_text (held arena) node tree
    pub sound : IsSound path tree
    pub deep : length path ≡ depth

  -- a tree that stands in an arena at this pointer and is sound under some path
  pub record TreeAt (arena : NodeArena K V P) (pointer : OpaqueNodePtr K V P) : Type 0 where
    pub tree : Tree (OpaqueNodePtr K V P)
    pub path : List ℕ
    pub at_root : root_of tree ≡ pointer
    pub stands : StandsIn arena tree
    pub sound : IsSound path tree

  -- a well-formed tree that stands in an arena at this pointer
  pub record IsTreeIn (arena : NodeArena K V P) (root : OpaqueNodePtr K V P) (tree : Tree (OpaqueNodePtr K V P)) : Type 0 where
    pub at_root : root_of tree ≡ root
    pub stands : StandsIn arena tree
    pub sound : IsWellFormed tree
