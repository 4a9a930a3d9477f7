-- The linked list of leaves.
use Rattle.std.specs.Prelude.{◌≡◌, ◌≢◌, ℕ, List, [], ◌∷◌, Option, Some, None, All, slice_get, slice_set}
use Rattle.std.specs.Option.{option_and_then, option_map, option_map_or}
use Rattle.art_header.specs.declared.node_type.NodeType.TheVariants as kinds
use Rattle.art_nodes.specs.Pointers.{opaque_pointer}
use Rattle.art_nodes.specs.Inner.{Inner}
use Rattle.art_nodes.specs.Leaf.{leaf_key, leaf_value, previous_key, next_key, with_value}
use Rattle.art_nodes.specs.declared.leaf_node.LeafNode.{LeafNode}
use Rattle.art_nodes.specs.declared.pointers.OpaqueNodePtr.{OpaqueNodePtr}
use Rattle.slab.specs.Slab.{get}
use Rattle.art_arena.specs.Arena.{NodeArena, HeldInner, Nothing, held}

-- no member is twice in the list
abbrev pub AreDistinct : {A : Type 0} → List A → Type 0
AreDistinct [] = Unit {0}
AreDistinct (member ∷ members) = All (λ other. other ≢ member) members × AreDistinct members

module _ {K V : Type 0} {P : ℕ} where
  -- the leaf under a slab key
  abbrev pub leaf_at : NodeArena K V P → ℕ → Option (LeafNode K V P)
  leaf_at arena key = get arena.leaf key

  -- each of these leaves names its neighbours, and the first one names this one as the one before
  -- it
  abbrev pub IsLinkedAfter : NodeArena K V P → Option ℕ → List ℕ → Type 0
  IsLinkedAfter arena before [] = Unit {0}
  IsLinkedAfter arena before (key ∷ keys) =
      ((leaf : LeafNode K V P) × (leaf_at arena key ≡ Some leaf) × (previous_key leaf ≡ before) × (next_key leaf ≡ slice_get keys 0))
      × IsLinkedAfter arena (Some key) keys

  -- these are different leaves, each named by its slab key, linked in this order
  pub record IsLinkedList (arena : NodeArena K V P) (keys : List ℕ) : Type 0 where
    pub distinct : AreDistinct keys
    pub is_linked : IsLinkedAfter arena None keys

  -- the arena holds a leaf under this slab key
  abbrev pub HoldsLeaf : NodeArena K V P → ℕ → Type 0
  HoldsLeaf arena key = held arena (opaque_pointer kinds.Leaf key) ≢ Nothing

  -- the leaf before the one under this slab key, if both are there
  abbrev pub previous_at : NodeArena K V P → ℕ → Option ℕ
  previous_at arena key = option_and_then previous_key (leaf_at arena key)

  -- the leaf after the one under this slab key, if both are there
  abbrev pub next_at : NodeArena K V P → ℕ → Option ℕ
  next_at arena key = option_and_then next_key (leaf_at arena key)

  -- the leaf names no neighbour
  abbrev pub IsUnlinked : NodeArena K V P → ℕ → Type 0
  IsUnlinked arena key = (previous_at arena key ≡ None) × (next_at arena key ≡ None)

  -- the leaf is held, and each neighbour that it names is held and names it back on that side
  pub record IsKnit (arena : NodeArena K V P) (key : ℕ) : Type 0 where
    pub held : HoldsLeaf arena key
    pub previous : (other : ℕ) → previous_at arena key ≡ Some other → next_at arena other ≡ Some key
    pub next : (other : ℕ) → next_at arena key ≡ Some other → previous_at arena other ≡ Some key

  -- every pointer holds what it held, but for the links of leaves
  pub record SameButLinks (old new : NodeArena K V P) : Type 0 where
    pub nothing : (pointer : OpaqueNodePtr K V P) → held old pointer ≡ Nothing → held new pointer ≡ Nothing
    pub inner : (pointer : OpaqueNodePtr K V P) (node : Inner (OpaqueNodePtr K V P)) →
        held old pointer ≡ HeldInner node → held new pointer ≡ HeldInner node
    pub leaf : (key : ℕ) (leaf : LeafNode K V P) → leaf_at old key ≡ Some leaf →
        (now : LeafNode K V P) × (leaf_at new key ≡ Some now) × (leaf_key now ≡ leaf_key leaf)
        × (leaf_value now ≡ leaf_value leaf)

  -- these two, each of which may be none, are neighbours now, and no other link changed
  pub record Joins (old new : NodeArena K V P) (before after : Option ℕ) : Type 0 where
    pub next : (key : ℕ) → before ≡ Some key → next_at new key ≡ after
    pub previous : (key : ℕ) → after ≡ Some key → previous_at new key ≡ before
    pub other_next : (key : ℕ) → before ≢ Some key → next_at new key ≡ next_at old key
    pub other_previous : (key : ℕ) → after ≢ Some key → previous_at new key ≡ previous_at old key
    pub other_leaves : (key : ℕ) → before ≢ Some key → after ≢ Some key → leaf_at new key ≡ leaf_at old key

  -- this leaf is between these two now, each of which may be none, and no other link changed
  pub record StandsBetween (old new : NodeArena K V P) (before : Option ℕ) (this : ℕ) (after : Option ℕ) : Type 0 where
    pub previous : previous_at new this ≡ before
    pub next : next_at new this ≡ after
    pub before_next : (key : ℕ) → before ≡ Some key → next_at new key ≡ Some this
    pub after_previous : (key : ℕ) → after ≡ Some key → previous_at new key ≡ Some this
    pub other_next : (key : ℕ) → key ≢ this → before ≢ Some key → next_at new key ≡ next_at old key
    pub other_previous : (key : ℕ) → key ≢ this → after ≢ Some key → previous_at new key ≡ previous_at old key
    pub other_leaves : (key : ℕ) → key ≢ this → before ≢ Some key → after ≢ Some key → leaf_at new key ≡ leaf_at old key

  -- this leaf is where the old one was, which names no neighbour now, and no other link changed
  pub record TakesPlace (old new : NodeArena K V P) (gone this : ℕ) : Type 0 where
    pub unlinked : IsUnlinked new gone
    pub previous : previous_at new this ≡ previous_at old gone
    pub next : next_at new this ≡ next_at old gone
    pub before_next : (key : ℕ) → key ≢ gone → previous_at old gone ≡ Some key → next_at new key ≡ Some this
    pub after_previous : (key : ℕ) → key ≢ gone → next_at old gone ≡ Some key → previous_at new key ≡ Some this
    pub other_next : (key : ℕ) → key ≢ this → key ≢ gone → previous_at old gone ≢ Some key →
        next_at new key ≡ next_at old key
    pub other_previous : (key : ℕ) → key ≢ this → key ≢ gone → next_at old gone ≢ Some key →
        previous_at new key ≡ previous_at old key
    pub other_leaves : (key : ℕ) → key ≢ this → key ≢ gone → previous_at old gone ≢ Some key →
        next_at old gone ≢ Some key → leaf_at new key ≡ leaf_at old key

  -- the text of the leaf under a slab key, empty where there is none
  abbrev pub text_at : (K → List ℕ) → NodeArena K V P → ℕ → List ℕ
  text_at text arena key = option_map_or (λ leaf. text (leaf_key leaf)) (leaf_at arena key) []

  -- the arena with another value in the leaf under a slab key
  abbrev pub with_value_at : NodeArena K V P → ℕ → V → NodeArena K V P
  with_value_at arena key value =
      let changed = option_map (λ leaf. with_value leaf value) (leaf_at arena key) in
      record arena { leaf = record arena.leaf { slots = slice_set arena.leaf.slots key changed } }
