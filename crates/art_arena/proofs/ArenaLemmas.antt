-- Writes to one slab of an arena, as callers see them.
use Rattle.std.proofs.Common.{Bor, MutBor, cond, is_some, IsSome, ◌-◌, ◌≡◌, ◌≢◌, ◌∙◌, ℕ, [], Option, Some, None, sym, ap, subst, refl, inl, inr, arith, rules, ◌≤◌, Result, Ok, Err, OnOk}
use Rattle.std.specs.Option.{option_copied, option_copied_mut}
use Rattle.std.specs.Prelude.{slice_index_or}
use Rattle.slab.specs.Slab.{Slab, get, slab_len, with_value, ContainsKey, HasRoomFor, Updates}
use Rattle.slab.proofs.SlabLemmas.{ContainsKey-within}
use Rattle.std.proofs.lemmas.List.Sums.{sum_by-set}
use Rattle.art_header.specs.declared.node_type.NodeType.{NodeType}
use Rattle.art_header.specs.declared.node_type.NodeType.TheVariants.{Node4, Node16, Node48, Node256, Leaf}
use Rattle.art_header.specs.NodeType.{most_children}
use Rattle.art_nodes.specs.ChildMap.{child_at}
use Rattle.art_nodes.specs.Inner as nodes
use Rattle.art_nodes.specs.Inner.{Inner, IsInner}
use Rattle.art_nodes.specs.Pointers.{node_kind, opaque_key, opaque_pointer}
use Rattle.art_nodes.specs.declared.pointers.OpaqueNodePtr.{OpaqueNodePtr}
use Rattle.art_nodes.specs.declared.leaf_node.LeafNode.{LeafNode}
use Rattle.art_nodes.proofs.KindLaws.{same_or_differ}
use Rattle.art_arena.proofs.StandingLaws.{one-inner}
use Rattle.art_arena.specs.SlabLaws.{held_in_slab, room_of_slab, capacity_of_slab, others_kept, other_room, other_capacity}
use Rattle.art_arena.specs.SlabOf.{IsSlabOf}
use Rattle.art_arena.specs.Arena.{NodeArena, Held, HeldInner, Nothing, held, held_inner, held_leaf, held_under, held_option, Changes, SameNodes, room, slab_room, capacity, space, SameRoom, SameCapacity}

-- a slab returns a reference where it has a value
pub IsSome-lent : {T : Type 0} (lent : Option (Bor T)) {slot : Option T} → option_copied lent ≡ slot → IsSome slot → IsSome lent
IsSome-lent None same within = subst IsSome (sym same) within
IsSome-lent (Some _) same within = refl

-- the same of a mutable reference
pub IsSome-lent_mut : {T : Type 0} (lent : Option (MutBor T)) {slot : Option T} → option_copied_mut lent ≡ slot → IsSome slot → IsSome lent
IsSome-lent_mut None same within = subst IsSome (sym same) within
IsSome-lent_mut (Some _) same within = refl

-- what a call of a slab reads, as its caller names slab and key
pub get-called : {T : Type 0} (before slab : Slab T) (at key : ℕ) → before ≡ slab → at ≡ key → get before at ≡ get slab key
get-called before slab at key lent same = ap (get before) same ∙ ap (λ s. get s key) lent

-- replacing a value changes no spare capacity
pub slab_room-with_value : {T : Type 0} (slab : Slab T) (key : ℕ) (value : T) → ContainsKey slab key → slab_room (with_value slab key value) ≡ slab_room slab
slab_room-with_value slab key value within =
    let counted = sum_by-set (λ slot. cond (is_some slot) 1 0) slab.slots key (Some value) None (ContainsKey-within slab key within) in
    let same = rw within at counted in
    ap (λ n. slab.capacity - n) (let e : slab_len (with_value slab key value) ≡ slab_len slab = omega arith in e)

module _ {K V : Type 0} {P : ℕ} {N : Type 0} {kind : NodeType} {held_as : N → Held (OpaqueNodePtr K V P) (LeafNode K V P)} {slab_of : NodeArena K V P → Slab N} {with_slab : NodeArena K V P → Slab N → NodeArena K V P} (slab : IsSlabOf kind held_as slab_of with_slab) where
  pub Changes-written : (arena : NodeArena K V P) (slots : Slab N) (key : ℕ) (slot : Option N) → Updates (slab_of arena) slots key slot → Changes arena (with_slab arena slots) (opaque_pointer kind key) (held_option held_as slot)
  Changes-written arena slots key slot updates = record {
    changed = held_in_slab slab (with_slab arena slots) key ∙ ap (λ s. held_option held_as (get s key)) (slab.slab_written arena slots) ∙ ap (held_option held_as) updates.changed;
    others = λ pointer other. elim (same_or_differ (node_kind pointer) kind) [
      | inr differ ↦ others_kept slab arena slots _ _ differ
      | inl same ↦ let key_differs : opaque_key pointer ≢ key = λ same_key. other (λ i. record { node_type = same i; key = same_key i; leaf = record {} }) in
          ap (λ k. held_under (with_slab arena slots) k (opaque_key pointer)) same ∙ held_in_slab slab (with_slab arena slots) (opaque_key pointer) ∙ ap (λ s. held_option held_as (get s (opaque_key pointer))) (slab.slab_written arena slots) ∙ ap (held_option held_as) (updates.others _ key_differs) ∙ sym (held_in_slab slab arena (opaque_key pointer)) ∙ sym (ap (λ k. held_under arena k (opaque_key pointer)) same)
    ];
  }

  -- the same in the words of the slab's contract
  pub Changes-called : (arena : NodeArena K V P) (before slots : Slab N) (key at : ℕ) (slot : Option N) → before ≡ slab_of arena → key ≡ at → Updates before slots key slot → Changes arena (with_slab arena slots) (opaque_pointer kind at) (held_option held_as slot)
  Changes-called arena before slots key at slot lent same updates =
      subst (λ k. Changes arena (with_slab arena slots) (opaque_pointer kind k) (held_option held_as slot)) same (Changes-written arena slots key slot (subst (λ s. Updates s slots key slot) lent updates))

  -- a slab that gives the same value under each key changes no node
  pub SameNodes-written : (arena : NodeArena K V P) (slots : Slab N) → ((key : ℕ) → get slots key ≡ get (slab_of arena) key) → SameNodes arena (with_slab arena slots)
  SameNodes-written arena slots kept = λ pointer. elim (same_or_differ (node_kind pointer) kind) [
    | inr differ ↦ others_kept slab arena slots _ _ differ
    | inl same ↦ let key = opaque_key pointer in
        ap (λ k. held_under (with_slab arena slots) k key) same ∙ held_in_slab slab (with_slab arena slots) key ∙ ap (λ s. held_option held_as (get s key)) (slab.slab_written arena slots) ∙ ap (held_option held_as) (kept key) ∙ sym (held_in_slab slab arena key) ∙ sym (ap (λ k. held_under arena k key) same)
  ]

  pub room-written : (arena : NodeArena K V P) (slots : Slab N) → room (with_slab arena slots) kind ≡ slab_room slots
  room-written arena slots = room_of_slab slab (with_slab arena slots) ∙ ap slab_room (slab.slab_written arena slots)

  capacity-written : (arena : NodeArena K V P) (slots : Slab N) → slots.capacity ≡ (slab_of arena).capacity → capacity (with_slab arena slots) kind ≡ capacity arena kind
  capacity-written arena slots kept = capacity_of_slab slab (with_slab arena slots) ∙ ap (λ s. s.capacity) (slab.slab_written arena slots) ∙ kept ∙ sym (capacity_of_slab slab arena)

  -- writing a slab of the same capacity changes no capacity of the arena
  pub SameCapacity-written : (arena : NodeArena K V P) (slots : Slab N) → slots.capacity ≡ (slab_of arena).capacity → SameCapacity arena (with_slab arena slots)
  SameCapacity-written arena slots kept = λ other. elim (same_or_differ other kind) [
    | inr differ ↦ other_capacity slab arena slots other differ
    | inl same ↦ subst (λ k. capacity (with_slab arena slots) k ≡ capacity arena k) (sym same) (capacity-written arena slots kept)
  ]

  -- writing a slab of the same spare capacity and capacity changes neither of the arena
  pub SameRoom-written : (arena : NodeArena K V P) (slots : Slab N) → slab_room slots ≡ slab_room (slab_of arena) → slots.capacity ≡ (slab_of arena).capacity → SameRoom arena (with_slab arena slots)
  SameRoom-written arena slots kept capacity_kept = λ other. elim (same_or_differ other kind) [
    | inr differ ↦ λ i. (other_room slab arena slots other differ i, other_capacity slab arena slots other differ i)
    | inl same ↦
        let own : room (with_slab arena slots) kind ≡ room arena kind = room-written arena slots ∙ kept ∙ sym (room_of_slab slab arena) in
        let most = capacity-written arena slots capacity_kept in
        let both : space (with_slab arena slots) kind ≡ space arena kind = λ i. (own i, most i) in
        subst (λ k. space (with_slab arena slots) k ≡ space arena k) (sym same) both
  ]

  -- replacing a node changes neither
  pub SameRoom-with_value : (arena : NodeArena K V P) (key : ℕ) (node : N) → ContainsKey (slab_of arena) key → SameRoom arena (with_slab arena (with_value (slab_of arena) key node))
  SameRoom-with_value arena key node within = SameRoom-written arena (with_value (slab_of arena) key node) (slab_room-with_value (slab_of arena) key node within) refl

module _ {K V : Type 0} {P : ℕ} where
  -- the node at a pointer has space for a child, by each name of the pointer
  pub room-there : (arena : NodeArena K V P) {at pointer : OpaqueNodePtr K V P} {there : Inner (OpaqueNodePtr K V P)} (byte : ℕ) → at ≡ pointer → held arena at ≡ HeldInner there
      → ((node : Inner (OpaqueNodePtr K V P)) → held arena pointer ≡ HeldInner node → nodes.HasRoomFor (most_children (node_kind pointer)) node byte) → nodes.HasRoomFor (most_children (node_kind at)) there byte
  room-there arena {there = there} byte same here has_room = subst (λ p. held arena p ≡ HeldInner there → nodes.HasRoomFor (most_children (node_kind p)) there byte) (sym same) (has_room there) here

  -- the node that an edit was made of is the one that was held
  pub edited-there : (edit : Inner (OpaqueNodePtr K V P) → Inner (OpaqueNodePtr K V P)) (old new : NodeArena K V P) {at pointer : OpaqueNodePtr K V P} {there now node : Inner (OpaqueNodePtr K V P)} → at ≡ pointer → held old at ≡ HeldInner there
      → now ≡ edit there → Changes old new at (HeldInner now) → held old pointer ≡ HeldInner node → Changes old new pointer (HeldInner (edit node))
  edited-there edit old new {at = at} {there = there} {node = node} same here edited changes is =
      let one = one-inner (held old at) there node here (ap (held old) same ∙ is) in
      subst (λ p. Changes old new p (HeldInner (edit node))) same (subst (λ n. Changes old new at (HeldInner n)) (edited ∙ ap edit one) changes)

  -- what a removal returned is the child of the node that was held
  pub child-there : (arena : NodeArena K V P) {at pointer : OpaqueNodePtr K V P} {there node : Inner (OpaqueNodePtr K V P)} {child : Option (OpaqueNodePtr K V P)} (byte : ℕ) → at ≡ pointer → held arena at ≡ HeldInner there
      → child ≡ child_at there.children byte → held arena pointer ≡ HeldInner node → child ≡ child_at node.children byte
  child-there arena {at = at} {there = there} {node = node} byte same here returned is =
      returned ∙ ap (λ n. child_at n.children byte) (one-inner (held arena at) there node here (ap (held arena) same ∙ is))

-- the node that is held at a pointer of a kind is sound for the pointer's own kind
pub IsInner-held : {K V : Type 0} {P : ℕ} (arena : NodeArena K V P) (pointer : OpaqueNodePtr K V P) {kind : NodeType} {there node : Inner (OpaqueNodePtr K V P)} → kind ≡ node_kind pointer → held arena pointer ≡ HeldInner there → IsInner P (most_children kind) there → held arena pointer ≡ HeldInner node → IsInner P (most_children (node_kind pointer)) node
IsInner-held {P = P} arena pointer {kind = kind} {there = there} {node = node} same held_there sound is =
    let same_node : there ≡ node = search rules in
    subst (λ kind. IsInner P (most_children kind) node) same (subst (IsInner P (most_children kind)) same_node sound)

-- spare capacity made in a slab is that of the arena for the kind
pub made_room : {T E : Type 0} (result : Result Unit E) (slab : Slab T) (additional : ℕ) → OnOk result (HasRoomFor slab additional) → OnOk result (additional ≤ slab_room slab)
made_room (Ok _) slab additional fits = omega (arith, fits)
made_room (Err _) slab additional fits = tt

-- five slabs with no slots hold nothing
pub held-empty : {K V : Type 0} {P : ℕ} (arena : NodeArena K V P) → arena.node4.slots ≡ [] → arena.node16.slots ≡ [] → arena.node48.slots ≡ [] → arena.node256.slots ≡ [] → arena.leaf.slots ≡ [] → (kind : NodeType) (key : ℕ) → held_under arena kind key ≡ Nothing
held-empty arena four sixteen many all leaves Node4 key = ap (λ slots. held_inner (slice_index_or slots key None)) four
held-empty arena four sixteen many all leaves Node16 key = ap (λ slots. held_inner (slice_index_or slots key None)) sixteen
held-empty arena four sixteen many all leaves Node48 key = ap (λ slots. held_inner (slice_index_or slots key None)) many
held-empty arena four sixteen many all leaves Node256 key = ap (λ slots. held_inner (slice_index_or slots key None)) all
held-empty arena four sixteen many all leaves Leaf key = ap (λ slots. held_leaf (slice_index_or slots key None)) leaves
