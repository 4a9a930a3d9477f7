-- Loading: the tree and the arena after a load.
use Rattle.std.specs.Prelude.{◌≡◌, ◌≢◌, ℕ, List, [], ◌∷◌, length, map}
use Rattle.std.specs.List.{Contains}
use Rattle.art_header.specs.NodeType.{kind_for}
use Rattle.art_nodes.specs.Leaf.{leaf_key, leaf_value}
use Rattle.art_nodes.specs.Pointers.{node_kind, opaque_key, slab_key}
use Rattle.art_nodes.specs.declared.pointers.OpaqueNodePtr.{OpaqueNodePtr}
use Rattle.art_nodes.specs.declared.leaf_node.LeafNode.{LeafNode}
use Rattle.art_arena.specs.Arena.{LeafPtr, NodeArena, HeldLeaf, Nothing, held}
use Rattle.art_arena.specs.Links.{IsLinkedList}
use Rattle.art_arena.specs.Standing.{IsTreeIn}
use Rattle.art_arena.specs.Trees.{Tree, Leaf, Inner, Branches, NoBranch, Branch, branch_roots, leaves, places}
use Rattle.art_search.specs.Search.{leaf_pointer}

module _ {K V : Type 0} {P : ℕ} where
  abbrev mutual
    -- every inner node is of the smallest kind that holds its branches
    pub HasSmallestKinds : Tree (OpaqueNodePtr K V P) → Type 0
    HasSmallestKinds (Leaf pointer text) = Unit {0}
    HasSmallestKinds (Inner pointer prefix branches) = (node_kind pointer ≡ kind_for (length (branch_roots branches))) × HaveSmallestKinds branches

    pub HaveSmallestKinds : Branches (OpaqueNodePtr K V P) → Type 0
    HaveSmallestKinds NoBranch = Unit {0}
    HaveSmallestKinds (Branch byte tree others) = HasSmallestKinds tree × HaveSmallestKinds others

  -- an arena holds what it held, and besides it just nodes at these places, of which it held none
  pub record Adds (old new : NodeArena K V P) (added : List (OpaqueNodePtr K V P)) : Type 0 where
    pub kept : (pointer : OpaqueNodePtr K V P) → held old pointer ≢ Nothing → held new pointer ≡ held old pointer
    pub were_free : (pointer : OpaqueNodePtr K V P) → Contains added pointer → held old pointer ≡ Nothing
    pub are_held : (pointer : OpaqueNodePtr K V P) → Contains added pointer → held new pointer ≢ Nothing
    pub no_others : (pointer : OpaqueNodePtr K V P) → held old pointer ≡ Nothing → held new pointer ≢ Nothing → Contains added pointer

  -- these pointers hold leaves with these entries, one each
  abbrev pub HoldEntries : NodeArena K V P → List (OpaqueNodePtr K V P) → List (K × V) → Type 0
  HoldEntries arena [] [] = Unit {0}
  HoldEntries arena [] (entry ∷ entries) = ⊥
  HoldEntries arena (pointer ∷ pointers) [] = ⊥
  HoldEntries arena (pointer ∷ pointers) (entry ∷ entries) =
      ((leaf : LeafNode K V P) × (held arena pointer ≡ HeldLeaf leaf)
      × (leaf_key leaf ≡ entry.0) × (leaf_value leaf ≡ entry.1))
      × HoldEntries arena pointers entries

  -- these new leaves hold the entries, are linked in their order, and are all that is new
  pub record AreLinked (old new : NodeArena K V P) (entries : List (K × V)) (leaves : List (LeafPtr K V P)) : Type 0 where
    pub hold : HoldEntries new (map leaf_pointer leaves) entries
    pub is_linked : IsLinkedList new (map slab_key leaves)
    pub adds : Adds old new (map leaf_pointer leaves)

  -- the pointers of a tree's leaves from left to right
  abbrev pub leaf_pointers : Tree (OpaqueNodePtr K V P) → List (OpaqueNodePtr K V P)
  leaf_pointers tree = map (λ leaf. leaf.0) (leaves tree)

  -- a well-formed tree with the smallest kinds stands in the arena, its leaves hold the entries and
  -- are linked in their order, and its nodes are all that is new
  pub record IsLoaded (text : K → List ℕ) (old new : NodeArena K V P) (entries : List (K × V)) (root : OpaqueNodePtr K V P) (tree : Tree (OpaqueNodePtr K V P)) : Type 0 where
    pub is_tree : IsTreeIn text new root tree
    pub smallest_kinds : HasSmallestKinds tree
    pub hold : HoldEntries new (leaf_pointers tree) entries
    pub is_linked : IsLinkedList new (map opaque_key (leaf_pointers tree))
    pub adds : Adds old new (places tree)
