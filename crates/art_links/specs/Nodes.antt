-- Loading, insertion and removal: changes of one inner node of an arena. No public clause cites it.
use Rattle.std.specs.Prelude.{◌≡◌, ◌≢◌, ℕ, ◌≤◌, ◌+◌, List, length, take}
use Rattle.art_header.specs.Header.{capped}
use Rattle.art_header.specs.declared.node_type.NodeType.{NodeType}
use Rattle.art_nodes.specs.ChildMap.{ChildMap}
use Rattle.art_nodes.specs.Inner.{Inner}
use Rattle.art_nodes.specs.Pointers.{node_kind}
use Rattle.art_nodes.specs.declared.pointers.OpaqueNodePtr.{OpaqueNodePtr}
use Rattle.art_arena.specs.Arena.{NodeArena, HeldInner, Nothing, held, room, Changes, SameCapacity, SameOtherRoom}

-- the node with these children and a prefix of which it stores at most so many bytes
abbrev pub node_of : {H : Type 0} → ℕ → List ℕ → ChildMap H → Inner H
node_of most prefix children = record { prefix_len = length prefix; stored = take (capped most (length prefix)) prefix; children = children }

-- the node with another prefix
abbrev pub node_with_prefix : {H : Type 0} → ℕ → Inner H → List ℕ → Inner H
node_with_prefix most node prefix = node_of most prefix node.children

module _ {K V : Type 0} {P : ℕ} where
  -- a new node of this kind is at a place that was free
  pub record IsPlaced (old new : NodeArena K V P) (kind : NodeType) (node : Inner (OpaqueNodePtr K V P)) (at : OpaqueNodePtr K V P) : Type 0 where
    pub is_kind : node_kind at ≡ kind
    pub was_free : held old at ≡ Nothing
    pub changes : Changes old new at (HeldInner node)
    pub room : room old kind ≤ room new kind + 1
    pub other_room : SameOtherRoom old new kind
    pub capacity : SameCapacity old new

  -- the node at a pointer is replaced by this one, which is at a new place as one of this kind
  pub record IsReplaced (old new : NodeArena K V P) (pointer : OpaqueNodePtr K V P) (new_kind : NodeType) (now : Inner (OpaqueNodePtr K V P)) (at : OpaqueNodePtr K V P) : Type 0 where
    pub kind : node_kind at ≡ new_kind
    pub was_free : held old at ≡ Nothing
    pub is_held : held new at ≡ HeldInner now
    pub is_free : held new pointer ≡ Nothing
    pub others : (other : OpaqueNodePtr K V P) → other ≢ at → other ≢ pointer → held new other ≡ held old other

  -- this kind has spare capacity for one node more at most, and the others as before
  pub record FreesOne (old new : NodeArena K V P) (kind : NodeType) : Type 0 where
    pub one_more : room new kind ≤ room old kind + 1
    pub others : SameOtherRoom old new kind
    pub capacity : SameCapacity old new
