-- Allocation failure in a step of a change of a tree. No public clause cites it.
use Rattle.std.specs.Prelude.{◌≡◌, ◌⊎◌, ℕ, ◌<◌, length}
use Rattle.art_header.specs.NodeType.{least_children, most_children, grown_kind, shrunk_kind}
use Rattle.art_header.specs.declared.node_type.NodeType.{NodeType}
use Rattle.art_header.specs.declared.node_type.NodeType.TheVariants.{Leaf, Node4}
use Rattle.art_nodes.specs.Inner.{Inner}
use Rattle.art_nodes.specs.Pointers.{node_kind}
use Rattle.art_nodes.specs.declared.pointers.OpaqueNodePtr.{OpaqueNodePtr}
use Rattle.art_arena.specs.Arena.{NodeArena, HeldInner, held, room}

module _ {K V : Type 0} {P : ℕ} (arena : NodeArena K V P) where
  -- the inner node at the pointer is full, and this kind, which it grows to, has no spare capacity
  abbrev pub LacksRoomToGrow : OpaqueNodePtr K V P → NodeType → Type 0
  LacksRoomToGrow pointer kind =
      (node : Inner (OpaqueNodePtr K V P)) → held arena pointer ≡ HeldInner node →
      (length node.children ≡ most_children (node_kind pointer)) × (kind ≡ grown_kind (node_kind pointer))
      × (room arena kind ≡ 0)

  -- this kind, which is that of leaves or the one that the node at the pointer grows to, has no spare capacity
  abbrev pub LacksRoomForChild : OpaqueNodePtr K V P → NodeType → Type 0
  LacksRoomForChild pointer kind = ((kind ≡ Leaf) × (room arena kind ≡ 0)) ⊎ LacksRoomToGrow pointer kind

  -- this kind, which is that of leaves or Node4, has no spare capacity
  abbrev pub LacksRoomForFork : NodeType → Type 0
  LacksRoomForFork kind = ((kind ≡ Leaf) ⊎ (kind ≡ Node4)) × (room arena kind ≡ 0)

  -- the inner node at the pointer has the fewest children of its kind, and this kind, which it shrinks to, has no spare capacity
  abbrev pub LacksRoomToShrink : OpaqueNodePtr K V P → NodeType → Type 0
  LacksRoomToShrink pointer kind =
      (node : Inner (OpaqueNodePtr K V P)) → held arena pointer ≡ HeldInner node →
      ((2 < length node.children) × (length node.children ≡ least_children (node_kind pointer)))
      × (kind ≡ shrunk_kind (node_kind pointer)) × (room arena kind ≡ 0)
