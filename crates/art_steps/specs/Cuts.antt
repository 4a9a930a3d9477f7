-- Removal: the changes of inner nodes. No public clause cites it.
use Rattle.std.specs.Prelude.{◌≡◌, ◌↔◌, ◌⊎◌, ℕ, ◌<◌, Bool, IsTrue, length}
use Rattle.art_header.specs.NodeType.{least_children, shrunk_kind}
use Rattle.art_nodes.specs.Inner.{Inner}
use Rattle.art_nodes.specs.Pointers.{node_kind}
use Rattle.art_nodes.specs.declared.pointers.OpaqueNodePtr.{OpaqueNodePtr}
use Rattle.art_arena.specs.Arena.{NodeArena, HeldInner, held, room, Changes, SameRoom}
use Rattle.art_links.specs.Nodes.{IsReplaced}

module _ {K V : Type 0} {P : ℕ} where
  -- this says whether the inner node at the pointer has the fewest children of its kind
  abbrev pub WhetherFewest : NodeArena K V P → OpaqueNodePtr K V P → Bool → Type 0
  WhetherFewest arena pointer fewest =
      (node : Inner (OpaqueNodePtr K V P)) → held arena pointer ≡ HeldInner node →
      IsTrue fewest ↔ (length node.children ≡ least_children (node_kind pointer))

  -- where the inner node at the pointer has more than two children and the fewest of its kind,
  -- there is spare capacity for one of the next smaller kind
  abbrev pub HasRoomToShrink : NodeArena K V P → OpaqueNodePtr K V P → Type 0
  HasRoomToShrink arena pointer =
      (node : Inner (OpaqueNodePtr K V P)) → held arena pointer ≡ HeldInner node →
      2 < length node.children → length node.children ≡ least_children (node_kind pointer) →
      0 < room arena (shrunk_kind (node_kind pointer))

  -- the node, which had more than the fewest children of its kind, is written in its place
  pub record IsCut (old new : NodeArena K V P) (pointer : OpaqueNodePtr K V P) (node now : Inner (OpaqueNodePtr K V P)) (at : OpaqueNodePtr K V P) : Type 0 where
    pub many : least_children (node_kind pointer) < length node.children
    pub same : at ≡ pointer
    pub changes : Changes old new pointer (HeldInner now)
    pub same_room : SameRoom old new

  -- the node, which had the fewest children of its kind, is replaced by one of the next smaller
  -- kind
  pub record IsShrunk (old new : NodeArena K V P) (pointer : OpaqueNodePtr K V P) (node now : Inner (OpaqueNodePtr K V P)) (at : OpaqueNodePtr K V P) : Type 0 where
    pub least : length node.children ≡ least_children (node_kind pointer)
    pub replaced : IsReplaced old new pointer (shrunk_kind (node_kind pointer)) now at

  -- the inner node has one child less, at its place or at a new one
  abbrev pub HasOneLess : NodeArena K V P → NodeArena K V P → OpaqueNodePtr K V P →
      Inner (OpaqueNodePtr K V P) → Inner (OpaqueNodePtr K V P) → OpaqueNodePtr K V P → Type 0
  HasOneLess old new pointer node now at = IsCut old new pointer node now at ⊎ IsShrunk old new pointer node now at
