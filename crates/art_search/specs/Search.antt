-- Search: the scan of all leaves, the way to a leaf, and the nodes that a key meets.
use Rattle.std.specs.Prelude.{◌≡◌, ◌⊎◌, ℕ, ◌+◌, Bool, ◌&&◌, ◌||◌, nat_eq, nat_lt, if◌then◌else◌, List, [], ◌∷◌, ◌++◌, length, filter, drop, Option, Some, None}
use Rattle.std.specs.List.{starts_with}
use Rattle.std.specs.Cmp.Lexicographic.{pointwise}
use Rattle.art_header.specs.declared.node_type.NodeType.TheVariants as kinds
use Rattle.art_nodes.specs.ChildMap.{child_at}
use Rattle.art_nodes.specs.Inner as nodes
use Rattle.art_nodes.specs.Pointers.{slab_key, opaque_pointer}
use Rattle.art_nodes.specs.declared.pointers.OpaqueNodePtr.{OpaqueNodePtr}
use Rattle.art_arena.specs.Arena.{LeafPtr, NodeArena, HeldInner, held}
use Rattle.art_arena.specs.Standing.{IsTreeIn}
use Rattle.art_arena.specs.Trees.{Tree, Leaf, Inner, Branches, NoBranch, Branch, leaves}
use Rattle.art_search.specs.declared.path.TreePath.{TreePath}
use Rattle.art_search.specs.declared.path.TreePath.TheVariants.{Root, ChildOfRoot, Normal}
use Rattle.art_search.specs.Paths.{Steps, path_of}

-- what is left of a key goes to this byte past the prefix, which it begins with where all of the prefix is stored
abbrev pub goes_to : ℕ → List ℕ → ℕ → List ℕ → Bool
goes_to room prefix byte rest =
    starts_with nat_eq (drop (length prefix) rest) (byte ∷ []) && (nat_lt room (length prefix) || starts_with nat_eq rest prefix)

module _ {H : Type 0} where
  -- the leaves whose text is the key
  abbrev pub scan : Tree H → List ℕ → List (H × List ℕ)
  scan tree key = filter (λ leaf. pointwise nat_eq leaf.1 key) (leaves tree)

  abbrev mutual
    -- the steps lead from the top of the tree down to the leaf at this pointer
    pub IsWay : Tree H → List (H × ℕ) → H → Type 0
    IsWay (Leaf at text) steps pointer = (steps ≡ []) × (pointer ≡ at)
    IsWay (Inner at prefix branches) steps pointer =
        (byte : ℕ) × (rest : List (H × ℕ)) × (steps ≡ (at, byte) ∷ rest) × IsWayUnder branches byte rest pointer

    -- they lead there from the branch under this byte
    pub IsWayUnder : Branches H → ℕ → List (H × ℕ) → H → Type 0
    IsWayUnder NoBranch byte steps pointer = ⊥
    IsWayUnder (Branch b tree others) byte steps pointer =
        ((b ≡ byte) × IsWay tree steps pointer) ⊎ IsWayUnder others byte steps pointer

  -- the steps lead to the leaf at this pointer, and no others do
  abbrev pub IsOnlyWay : Tree H → List (H × ℕ) → H → Type 0
  IsOnlyWay tree steps pointer = IsWay tree steps pointer × ((others : List (H × ℕ)) → IsWay tree others pointer → others ≡ steps)

  abbrev mutual
    -- the pointers of the tree to which the key goes at every node above them
    pub met : ℕ → Tree H → List ℕ → List H
    met room (Leaf at text) rest = at ∷ []
    met room (Inner at prefix branches) rest = at ∷ met_below room prefix branches rest

    -- those of the branches below a node with this prefix
    pub met_below : ℕ → List ℕ → Branches H → List ℕ → List H
    met_below room prefix NoBranch rest = []
    met_below room prefix (Branch byte tree others) rest =
        (if goes_to room prefix byte rest then met room tree (drop (length prefix + 1) rest) else []) ++ met_below room prefix others rest

module _ {K V : Type 0} {P : ℕ} where
  -- the pointer to a leaf, as trees have it
  abbrev pub leaf_pointer : LeafPtr K V P → OpaqueNodePtr K V P
  leaf_pointer leaf = opaque_pointer kinds.Leaf (slab_key leaf)

  -- the leaf of a result, or none
  abbrev pub found : Option (LeafPtr K V P × TreePath K V P) → List ℕ → List (OpaqueNodePtr K V P × List ℕ)
  found None key = []
  found (Some (leaf, path)) key = (leaf_pointer leaf, key) ∷ []

  -- the path of the one way to a leaf
  abbrev pub IsPathTo : Tree (OpaqueNodePtr K V P) → OpaqueNodePtr K V P → TreePath K V P → Type 0
  IsPathTo tree pointer path = (steps : Steps K V P) × IsOnlyWay tree steps pointer × (path ≡ path_of steps)

  -- the inner node at the parent has this child under the byte
  abbrev pub HasChildAt : NodeArena K V P → OpaqueNodePtr K V P → ℕ → OpaqueNodePtr K V P → Type 0
  HasChildAt arena parent byte child =
      (node : nodes.Inner (OpaqueNodePtr K V P)) × (held arena parent ≡ HeldInner node)
      × (child_at node.children byte ≡ Some child)

  -- the arena holds the path's nodes, each with the one below, the last one with the leaf, under the path's
  -- byte; a path of one step begins at the root, and one of none is the root itself
  abbrev pub LeadsTo : NodeArena K V P → OpaqueNodePtr K V P → TreePath K V P → OpaqueNodePtr K V P → Type 0
  LeadsTo arena root Root leaf = root ≡ leaf
  LeadsTo arena root (ChildOfRoot parent byte) leaf = (parent ≡ root) × HasChildAt arena parent byte leaf
  LeadsTo arena root (Normal grandparent parent_byte parent byte) leaf =
      HasChildAt arena grandparent parent_byte parent × HasChildAt arena parent byte leaf

  -- for every well-formed tree that stands at this pointer of an arena
  abbrev pub EachTree : (K → List ℕ) → NodeArena K V P → OpaqueNodePtr K V P → (Tree (OpaqueNodePtr K V P) → Type 0) → Type 0
  EachTree text arena root Holds = (tree : Tree (OpaqueNodePtr K V P)) → IsTreeIn text arena root tree → Holds tree

  -- a well-formed tree stands at this pointer of an arena
  abbrev pub HasTree : (K → List ℕ) → NodeArena K V P → OpaqueNodePtr K V P → Type 0
  HasTree text arena root = (tree : Tree (OpaqueNodePtr K V P)) × IsTreeIn text arena root tree
