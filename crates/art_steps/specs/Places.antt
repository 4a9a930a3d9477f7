-- The place of a text in a tree. No public clause cites it.
use Rattle.std.specs.Prelude.{◌≡◌, ◌≢◌, ◌==◌, ℕ, ◌+◌, ◌≤◌, if◌then◌else◌, List, [], ◌∷◌, ◌++◌, length, take, drop, All, Contains, Option, Some, None, IfSome, slice_get}
use Rattle.std.specs.Option.{option_and_then, option_map_or}
use Rattle.art_bytes.specs.Text.{IsPrefixOf}
use Rattle.art_nodes.specs.ChildMap.{child_at}
use Rattle.art_nodes.specs.Inner as nodes
use Rattle.art_nodes.specs.declared.pointers.OpaqueNodePtr.{OpaqueNodePtr}
use Rattle.art_arena.specs.Arena.{LeafPtr, NodeArena}
use Rattle.art_arena.specs.Standing.{StandsIn}
use Rattle.art_arena.specs.Trees.{Tree, Leaf, Inner, Branches, NoBranch, Branch, branch_roots, root_of, leaves, IsWellFormed}
use Rattle.art_steps.specs.Contexts.{Context, Whole, Under, plug, path_to}
use Rattle.art_steps.specs.Dictionary.{IsProperPrefixOf}
use Rattle.art_search.specs.Search.{leaf_pointer}
use Rattle.art_steps.specs.declared.place.Mismatch.{Mismatch}
use Rattle.art_steps.specs.declared.place.Place.{Place}
use Rattle.art_steps.specs.declared.place.Place.TheVariants as places
use Rattle.art_steps.specs.declared.place.Spot.{Spot}

module _ {H : Type 0} where
  -- the node above the place, with the byte of the place
  abbrev pub above : Context H → Option (H × ℕ)
  above Whole = None
  above (Under rest pointer prefix before byte after) = Some (pointer, byte)

  -- the prefix of the topmost node
  abbrev pub prefix_of : Tree H → List ℕ
  prefix_of (Leaf pointer text) = []
  prefix_of (Inner pointer prefix branches) = prefix

  abbrev mutual
    -- the subtree at whose topmost node a search for the rest of a key ends that compares no prefix
    pub toward : List ℕ → Tree H → Tree H
    toward rest (Leaf pointer text) = Leaf pointer text
    toward rest (Inner pointer prefix branches) =
        option_map_or (λ byte. toward_under byte (drop (length prefix + 1) rest) branches (Inner pointer prefix branches))
        (slice_get rest (length prefix)) (Inner pointer prefix branches)

    -- the same below the branch under this byte, or this tree where there is none
    pub toward_under : ℕ → List ℕ → Branches H → Tree H → Tree H
    toward_under byte rest NoBranch tree = tree
    toward_under byte rest (Branch b below others) tree =
        if b == byte then toward rest below else toward_under byte rest others tree

  -- the child under the byte of the rest of a key after as many bytes as the prefix has
  abbrev pub child_after : nodes.Inner H → List ℕ → Option H
  child_after node rest = option_and_then (child_at node.children) (slice_get rest node.prefix_len)

  -- one of the leaves has this text
  abbrev pub HasLeafText : Tree H → List ℕ → Type 0
  HasLeafText tree text = (pointer : H) × Contains (leaves tree) (pointer, text)

  -- the first bytes of the texts of a tree, by its topmost node, where this is the path to it
  abbrev pub reach : List ℕ → Tree H → List ℕ
  reach path (Leaf pointer text) = text
  reach path (Inner pointer prefix branches) = path ++ prefix

  -- the key leads to this leaf of the tree, which has this text
  pub record LeadsToLeaf (tree : Tree H) (key : List ℕ) (pointer : H) (text : List ℕ) : Type 0 where
    pub context : Context H
    pub whole : plug context (Leaf pointer text) ≡ tree
    pub leads : IsPrefixOf (path_to context) key

module _ {K V : Type 0} {P : ℕ} (tree : Tree (OpaqueNodePtr K V P)) (key : List ℕ) (spot : Spot K V P) where
  -- the key leads to this node of the tree, which has this parent
  pub record IsSpot : Type 0 where
    pub context : Context (OpaqueNodePtr K V P)
    pub part : Tree (OpaqueNodePtr K V P)
    pub whole : plug context part ≡ tree
    pub at_root : root_of part ≡ spot.node
    pub leads : IsPrefixOf (path_to context) key
    pub deep : length (path_to context) ≡ spot.depth
    pub parent_is : above context ≡ spot.parent

  -- the key leads past all of the inner node's prefix, and there is no branch under its next byte
  pub record LacksChild (byte : ℕ) : Type 0 where
    pub at : IsSpot
    pub prefix : List ℕ
    pub branches : Branches (OpaqueNodePtr K V P)
    pub part : at.part ≡ Inner spot.node prefix branches
    pub leads : IsPrefixOf ((path_to at.context ++ prefix) ++ byte ∷ []) key
    pub absent : child_at (branch_roots branches) byte ≡ None

  -- at this index the key has another byte than all texts at the node, and the same bytes before
  pub record Parts (mismatch : Mismatch) : Type 0 where
    pub at : IsSpot
    pub later : spot.depth ≤ mismatch.index
    pub byte : slice_get key mismatch.index ≡ Some mismatch.byte
    pub node : IsPrefixOf (take mismatch.index key ++ mismatch.node_byte ∷ []) (reach (path_to at.context) at.part)
    pub differ : mismatch.byte ≢ mismatch.node_byte

  -- the key is a proper prefix of all texts at the node
  pub record BeginsAll : Type 0 where
    pub at : IsSpot
    pub begins : All (λ leaf. IsProperPrefixOf key leaf.1) (leaves at.part)

-- the key leads to this node of a well-formed tree that stands in an arena
pub record IsSpotIn {K V : Type 0} {P : ℕ} (text : K → List ℕ) (arena : NodeArena K V P) (tree : Tree (OpaqueNodePtr K V P)) (key : List ℕ) (spot : Spot K V P) : Type 0 where
  pub stands : StandsIn text arena tree
  pub sound : IsWellFormed tree
  pub at : IsSpot tree key spot

-- such a node, and where the text of a leaf is known, one of those toward which the key leads below
pub record IsDescentIn {K V : Type 0} {P : ℕ} (text : K → List ℕ) (arena : NodeArena K V P) (tree : Tree (OpaqueNodePtr K V P)) (key : List ℕ) (spot : Spot K V P) (known : Option (List ℕ)) : Type 0 where
  pub spot_in : IsSpotIn text arena tree key spot
  pub below : IfSome known (HasLeafText (toward (drop spot.depth key) spot_in.at.part))

module _ {K V : Type 0} {P : ℕ} (tree : Tree (OpaqueNodePtr K V P)) (key : List ℕ) where
  -- the key belongs to this place of the tree
  abbrev pub Belongs : Place K V P → Type 0
  Belongs (places.Present leaf) = LeadsToLeaf tree key (leaf_pointer leaf) key
  Belongs (places.Extends leaf) =
      (text : List ℕ) × LeadsToLeaf tree key (leaf_pointer leaf) text × IsProperPrefixOf text key
  Belongs (places.Begins spot) = BeginsAll tree key spot
  Belongs (places.Absent spot byte) = LacksChild tree key spot byte
  Belongs (places.Differs spot mismatch) = Parts tree key spot mismatch

-- the root and the leaf with the key itself, where that is its place
abbrev pub present_leaf : {K V : Type 0} {P : ℕ} → Option (OpaqueNodePtr K V P × Place K V P) → Option (OpaqueNodePtr K V P × LeafPtr K V P)
present_leaf None = None
present_leaf (Some (root, places.Present leaf)) = Some (root, leaf)
present_leaf (Some (root, places.Extends leaf)) = None
present_leaf (Some (root, places.Begins spot)) = None
present_leaf (Some (root, places.Absent spot byte)) = None
present_leaf (Some (root, places.Differs spot mismatch)) = None

-- the place of the key in a well-formed tree that stands in an arena
pub record IsPlaceIn {K V : Type 0} {P : ℕ} (text : K → List ℕ) (arena : NodeArena K V P) (tree : Tree (OpaqueNodePtr K V P)) (key : List ℕ) (place : Place K V P) : Type 0 where
  pub stands : StandsIn text arena tree
  pub sound : IsWellFormed tree
  pub belongs : Belongs tree key place
