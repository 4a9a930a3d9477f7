-- The nodes that an arena holds, and its spare capacity.
use Rattle.std.specs.Prelude.{◌≡◌, ◌≢◌, ℕ, ◌-◌, Option, Some, None}
use Rattle.slab.specs.Slab.{Slab, get, slab_len, with_value}
use Rattle.art_header.specs.declared.node_type.NodeType.{NodeType}
use Rattle.art_header.specs.declared.node_type.NodeType.TheVariants.{Node4, Node16, Node48, Node256, Leaf}
use Rattle.art_header.specs.Header.{Header}
use Rattle.art_nodes.specs.Inner.{Inner, header_of}
use Rattle.art_nodes.specs.Pointers.{node_kind, opaque_key}
use Rattle.art_nodes.specs.declared.pointers.NodePtr.{NodePtr}
use Rattle.art_nodes.specs.declared.pointers.OpaqueNodePtr.{OpaqueNodePtr}
use Rattle.art_nodes.specs.declared.leaf_node.LeafNode.{LeafNode}

-- the nodes of each kind, by slab key
pub record Slabs (A B C D L : Type 0) : Type 0 where
  pub node4 : Slab A
  pub node16 : Slab B
  pub node48 : Slab C
  pub node256 : Slab D
  pub leaf : Slab L

-- those of an arena
abbrev pub Arena : Type 0 → Type 0 → Type 0
Arena H L = Slabs (Inner H) (Inner H) (Inner H) (Inner H) L

-- what is held at a pointer
pub data Held (H L : Type 0) : Type 0 where
  Nothing : Held H L
  HeldInner : Inner H → Held H L
  HeldLeaf : L → Held H L

-- how many more values a slab takes without memory
abbrev pub slab_room : {T : Type 0} → Slab T → ℕ
slab_room slab = slab.capacity - slab_len slab

module _ {H L : Type 0} where
  -- how many more nodes of a kind an arena takes without memory
  abbrev pub room : Arena H L → NodeType → ℕ
  room arena Node4 = slab_room arena.node4
  room arena Node16 = slab_room arena.node16
  room arena Node48 = slab_room arena.node48
  room arena Node256 = slab_room arena.node256
  room arena Leaf = slab_room arena.leaf

  -- how many nodes of a kind an arena holds at most with no allocation
  abbrev pub capacity : Arena H L → NodeType → ℕ
  capacity arena Node4 = arena.node4.capacity
  capacity arena Node16 = arena.node16.capacity
  capacity arena Node48 = arena.node48.capacity
  capacity arena Node256 = arena.node256.capacity
  capacity arena Leaf = arena.leaf.capacity

  -- how many leaves an arena holds
  abbrev pub leaf_count : Arena H L → ℕ
  leaf_count arena = slab_len arena.leaf

  -- spare capacity and capacity of a kind
  abbrev pub space : Arena H L → NodeType → ℕ × ℕ
  space arena kind = (room arena kind, capacity arena kind)

  -- spare capacity and capacity of every kind are unchanged
  abbrev pub SameRoom : Arena H L → Arena H L → Type 0
  SameRoom old new = (kind : NodeType) → space new kind ≡ space old kind

  -- the capacity of every kind is unchanged
  abbrev pub SameCapacity : Arena H L → Arena H L → Type 0
  SameCapacity old new = (kind : NodeType) → capacity new kind ≡ capacity old kind

  -- the capacity of every kind but this one is unchanged
  abbrev pub SameOtherCapacity : Arena H L → Arena H L → NodeType → Type 0
  SameOtherCapacity old new kind = (other : NodeType) → other ≢ kind → capacity new other ≡ capacity old other

  -- the spare capacity of every kind but this one is unchanged
  abbrev pub SameOtherRoom : Arena H L → Arena H L → NodeType → Type 0
  SameOtherRoom old new kind = (other : NodeType) → other ≢ kind → room new other ≡ room old other

  -- an inner node, or nothing
  abbrev pub held_inner : Option (Inner H) → Held H L
  held_inner None = Nothing
  held_inner (Some node) = HeldInner node

  -- a leaf, or nothing
  abbrev pub held_leaf : Option L → Held H L
  held_leaf None = Nothing
  held_leaf (Some leaf) = HeldLeaf leaf

  -- something is held
  abbrev pub IsSomething : Held H L → Type 0
  IsSomething Nothing = ⊥
  IsSomething (HeldInner node) = Unit {0}
  IsSomething (HeldLeaf leaf) = Unit {0}

  -- the inner node that is held, or this other one
  abbrev pub inner_or : Inner H → Held H L → Inner H
  inner_or other Nothing = other
  inner_or other (HeldInner node) = node
  inner_or other (HeldLeaf leaf) = other

  -- the inner node that is held, if it is one
  abbrev pub as_inner : Held H L → Option (Inner H)
  as_inner Nothing = None
  as_inner (HeldInner node) = Some node
  as_inner (HeldLeaf leaf) = None

  -- the leaf that is held, or this other one
  abbrev pub leaf_or : L → Held H L → L
  leaf_or other Nothing = other
  leaf_or other (HeldInner node) = other
  leaf_or other (HeldLeaf leaf) = leaf

  -- what is held of a kind under a slab key
  abbrev pub held_under : Arena H L → NodeType → ℕ → Held H L
  held_under arena Node4 key = held_inner (get arena.node4 key)
  held_under arena Node16 key = held_inner (get arena.node16 key)
  held_under arena Node48 key = held_inner (get arena.node48 key)
  held_under arena Node256 key = held_inner (get arena.node256 key)
  held_under arena Leaf key = held_leaf (get arena.leaf key)

  -- what is held, as an optional node of one type
  abbrev pub held_option : {N : Type 0} → (N → Held H L) → Option N → Held H L
  held_option held_as None = Nothing
  held_option held_as (Some node) = held_as node

  -- the header of an inner node
  abbrev pub held_header : Held H L → Option Header
  held_header Nothing = None
  held_header (HeldInner node) = Some (header_of node)
  held_header (HeldLeaf leaf) = None

-- the pointer to a leaf
abbrev pub LeafPtr : Type 0 → Type 0 → ℕ → Type 0
LeafPtr K V P = NodePtr P (LeafNode K V P)

-- what a `NodeArena` shows
abbrev pub NodeArena : Type 0 → Type 0 → ℕ → Type 0
NodeArena K V P = Arena (OpaqueNodePtr K V P) (LeafNode K V P)

module _ {K V : Type 0} {P : ℕ} where
  -- what is held at a pointer
  abbrev pub held : NodeArena K V P → OpaqueNodePtr K V P → Held (OpaqueNodePtr K V P) (LeafNode K V P)
  held arena pointer = held_under arena (node_kind pointer) (opaque_key pointer)

  -- this pointer holds this now, and every other pointer what it held
  pub record Changes (old new : NodeArena K V P) (at : OpaqueNodePtr K V P) (now : Held (OpaqueNodePtr K V P) (LeafNode K V P)) : Type 0 where
    pub changed : held new at ≡ now
    pub others : (pointer : OpaqueNodePtr K V P) → pointer ≢ at → held new pointer ≡ held old pointer

  -- every pointer holds what it held
  abbrev pub SameNodes : NodeArena K V P → NodeArena K V P → Type 0
  SameNodes old new = (pointer : OpaqueNodePtr K V P) → held new pointer ≡ held old pointer

  -- the arena with this node in place of the one under a slab key
  abbrev pub with_node : {N : Type 0} → (NodeArena K V P → Slab N) →
      (NodeArena K V P → Slab N → NodeArena K V P) → NodeArena K V P → ℕ → N → NodeArena K V P
  with_node slab_of with_slab arena key node = with_slab arena (with_value (slab_of arena) key node)
