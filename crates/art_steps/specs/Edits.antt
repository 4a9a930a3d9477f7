-- Insertion: the changes of inner nodes and of the list of leaves. No public clause cites it.
use Rattle.std.specs.Prelude.{◌≡◌, ◌↔◌, ◌⊎◌, ℕ, ◌<◌, ◌≤◌, Bool, IsTrue, List, [], ◌∷◌, ◌++◌, length, nat_lt, if◌then◌else◌}
use Rattle.art_header.specs.NodeType.{most_children, grown_kind}
use Rattle.std.specs.declared.cmp.Ordering.TheVariants.{Less}
use Rattle.art_bytes.specs.Text.{text_order}
use Rattle.art_nodes.specs.ChildMap.{ChildMap}
use Rattle.art_nodes.specs.Inner.{Inner}
use Rattle.art_nodes.specs.Leaf.{leaf_key, leaf_value}
use Rattle.art_nodes.specs.Pointers.{node_kind}
use Rattle.art_nodes.specs.declared.pointers.OpaqueNodePtr.{OpaqueNodePtr}
use Rattle.art_nodes.specs.declared.leaf_node.LeafNode.{LeafNode}
use Rattle.art_arena.specs.Arena.{NodeArena, HeldInner, HeldLeaf, Nothing, held, room, Changes}
use Rattle.art_arena.specs.Links.{IsLinkedList}
use Rattle.art_steps.specs.Contexts.{KeepsAt}
use Rattle.art_links.specs.Nodes.{IsReplaced}
use Rattle.art_arena.specs.Ends.{put_at}
use Rattle.art_arena.specs.declared.ends.End.{End}
use Rattle.art_arena.specs.declared.ends.End.TheVariants.{First, Last}

-- a member is beside a gap of a list: the first one right of it, or the last one left of it
abbrev pub IsBeside : {A : Type 0} → End → List A → List A → A → Type 0
IsBeside First left right member = (others : List _) × (right ≡ put_at First member others)
IsBeside Last left right member = (others : List _) × (left ≡ put_at Last member others)

-- a new text is on the right side of another: less than the first one right of the gap, or greater
-- than the last one left of it
abbrev pub IsOnSide : End → List ℕ → List ℕ → Type 0
IsOnSide First text other = text_order text other ≡ Less
IsOnSide Last text other = text_order other text ≡ Less

-- two children by ascending byte
abbrev pub two_children : {H : Type 0} → ℕ → H → ℕ → H → ChildMap H
two_children byte child other node =
    if nat_lt byte other then (byte, child) ∷ (other, node) ∷ [] else (other, node) ∷ (byte, child) ∷ []

module _ {K V : Type 0} {P : ℕ} where
  -- a linked list has a gap beside this leaf
  pub record HasGap (arena : NodeArena K V P) (end : End) (sibling : ℕ) : Type 0 where
    pub left : List ℕ
    pub right : List ℕ
    pub is_linked : IsLinkedList arena (left ++ right)
    pub beside : IsBeside end left right sibling

  -- the pointer holds what it held, but for the links of a leaf
  pub record StaysAt (old new : NodeArena K V P) (pointer : OpaqueNodePtr K V P) : Type 0 where
    pub nothing : held old pointer ≡ Nothing → held new pointer ≡ Nothing
    pub keeps : KeepsAt old new pointer

  -- a leaf with this key and this value is at the pointer
  pub record HoldsEntry (arena : NodeArena K V P) (pointer : OpaqueNodePtr K V P) (k : K) (v : V) : Type 0 where
    pub leaf : LeafNode K V P
    pub is_held : held arena pointer ≡ HeldLeaf leaf
    pub key : leaf_key leaf ≡ k
    pub value : leaf_value leaf ≡ v

  -- this says whether the inner node at the pointer has as many children as its kind holds
  abbrev pub WhetherFull : NodeArena K V P → OpaqueNodePtr K V P → Bool → Type 0
  WhetherFull arena pointer full =
      (node : Inner (OpaqueNodePtr K V P)) → held arena pointer ≡ HeldInner node →
      (IsTrue full ↔ (length node.children ≡ most_children (node_kind pointer))) ×
      (length node.children ≤ most_children (node_kind pointer))

  -- where the inner node at the pointer is full, there is spare capacity for one of the next kind
  abbrev pub HasRoomToGrow : NodeArena K V P → OpaqueNodePtr K V P → Type 0
  HasRoomToGrow arena pointer =
      (node : Inner (OpaqueNodePtr K V P)) → held arena pointer ≡ HeldInner node →
      length node.children ≡ most_children (node_kind pointer) →
      0 < room arena (grown_kind (node_kind pointer))

  -- the node is written in its place
  pub record IsWritten (old new : NodeArena K V P) (pointer : OpaqueNodePtr K V P) (node now : Inner (OpaqueNodePtr K V P)) (at : OpaqueNodePtr K V P) : Type 0 where
    pub few : length node.children < most_children (node_kind pointer)
    pub same : at ≡ pointer
    pub changes : Changes old new pointer (HeldInner now)

  -- the node, which was full, is replaced by one of the next kind
  pub record IsMoved (old new : NodeArena K V P) (pointer : OpaqueNodePtr K V P) (node now : Inner (OpaqueNodePtr K V P)) (at : OpaqueNodePtr K V P) : Type 0 where
    pub full : length node.children ≡ most_children (node_kind pointer)
    pub replaced : IsReplaced old new pointer (grown_kind (node_kind pointer)) now at

  -- the inner node has one child more, at its place or at a new one
  abbrev pub HasOneMore : NodeArena K V P → NodeArena K V P → OpaqueNodePtr K V P →
      Inner (OpaqueNodePtr K V P) → Inner (OpaqueNodePtr K V P) → OpaqueNodePtr K V P → Type 0
  HasOneMore old new pointer node now at = IsWritten old new pointer node now at ⊎ IsMoved old new pointer node now at
