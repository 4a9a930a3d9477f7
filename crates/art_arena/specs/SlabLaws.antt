-- When a slab is that of a kind, and what follows where it is. No public clause cites this.
use Rattle.std.specs.Prelude.{◌≡◌, ◌≢◌, ◌↔◌, ℕ, Option, Some, None, IsSome, refl}
use Rattle.std.proofs.Common.{ap, sym, subst, ◌∙◌}
use Rattle.slab.specs.Slab.{Slab, get, ContainsKey}
use Rattle.art_header.specs.declared.node_type.NodeType.{NodeType}
use Rattle.art_nodes.specs.Inner.{Inner}
use Rattle.art_arena.specs.Arena.{Arena, Held, Nothing, HeldInner, HeldLeaf, IsSomething, inner_or, leaf_or, held_inner, held_leaf, held_under, held_option, room, slab_room, capacity, SameOtherRoom, SameOtherCapacity}
use Rattle.art_arena.specs.SlabOf.{Contents, contents, slab_contents, IsSlabOf}

module _ {H L : Type 0} where
  -- what a slab has, each slot seen by this
  abbrev pub contents_by : {N : Type 0} → (Option N → Held H L) → Slab N → Contents H L
  contents_by shown slab = record { nodes = λ key. shown (get slab key); room = slab_room slab; capacity = slab.capacity }

  contents_alike : {N : Type 0} (shown : Option N → Held H L) (held_as : N → Held H L) → ((slot : Option N) → shown slot ≡ held_option held_as slot) → (slab : Slab N) → contents_by shown slab ≡ slab_contents held_as slab
  contents_alike shown held_as alike slab = λ i. record { nodes = λ key. alike (get slab key) i; room = slab_room slab; capacity = slab.capacity }

  inner_alike : (slot : Option (Inner H)) → held_inner {L = L} slot ≡ held_option HeldInner slot
  inner_alike None = refl
  inner_alike (Some node) = refl

  leaf_alike : (slot : Option L) → held_leaf {H = H} slot ≡ held_option HeldLeaf slot
  leaf_alike None = refl
  leaf_alike (Some leaf) = refl

  -- an arena has of a kind what a slab has, each slot seen by this; the slab that is written is read; the other kinds are unchanged
  abbrev pub IsSeenBy : {N : Type 0} → (Option N → Held H L) → NodeType → (Arena H L → Slab N) → (Arena H L → Slab N → Arena H L) → Type 0
  IsSeenBy {N = N} shown kind slab_of with_slab =
      ((arena : Arena H L) → contents arena kind ≡ contents_by shown (slab_of arena))
      × ((arena : Arena H L) (slots : Slab N) → slab_of (with_slab arena slots) ≡ slots)
      × ((arena : Arena H L) (slots : Slab N) (other : NodeType) → other ≢ kind → contents (with_slab arena slots) other ≡ contents arena other)

  -- the slab of a kind of inner nodes
  pub inner_slab : {kind : NodeType} {slab_of : Arena H L → Slab (Inner H)} {with_slab : Arena H L → Slab (Inner H) → Arena H L} → IsSeenBy held_inner kind slab_of with_slab → IsSlabOf kind HeldInner slab_of with_slab
  inner_slab {slab_of = slab_of} (read, written, rest) = record {
    is_held = λ node gone. subst IsSomething gone tt;
    one_node = λ a b same. ap (inner_or a) same;
    slab_read = λ arena. read arena ∙ contents_alike held_inner HeldInner inner_alike (slab_of arena);
    slab_written = written;
    rest_kept = rest;
  }

  -- the slab of the leaves
  pub leaf_slab : {kind : NodeType} {slab_of : Arena H L → Slab L} {with_slab : Arena H L → Slab L → Arena H L} → IsSeenBy held_leaf kind slab_of with_slab → IsSlabOf kind HeldLeaf slab_of with_slab
  leaf_slab {slab_of = slab_of} (read, written, rest) = record {
    is_held = λ node gone. subst IsSomething gone tt;
    one_node = λ a b same. ap (leaf_or a) same;
    slab_read = λ arena. read arena ∙ contents_alike held_leaf HeldLeaf leaf_alike (slab_of arena);
    slab_written = written;
    rest_kept = rest;
  }

-- a slot has a node exactly where something is held
slot_held : {H L N : Type 0} (held_as : N → Held H L) → ((node : N) → held_as node ≢ Nothing) → (slot : Option N) → IsSome slot ↔ (held_option held_as slot ≢ Nothing)
slot_held held_as is_held None = (λ some gone. cc, λ held. absurd (held refl))
slot_held held_as is_held (Some node) = (λ some. is_held node, λ held. refl)

module _ {H L N : Type 0} {kind : NodeType} {held_as : N → Held H L} {slab_of : Arena H L → Slab N} {with_slab : Arena H L → Slab N → Arena H L} (slab : IsSlabOf kind held_as slab_of with_slab) where
  -- what the arena holds under a key of the kind is what the slab has there
  pub held_in_slab : (arena : Arena H L) (key : ℕ) → held_under arena kind key ≡ held_option held_as (get (slab_of arena) key)
  held_in_slab arena key = ap (λ has. has.nodes key) (slab.slab_read arena)

  -- the slab has a key exactly where the arena holds a node there
  pub held_where_contained : (arena : Arena H L) (key : ℕ) → ContainsKey (slab_of arena) key ↔ (held_under arena kind key ≢ Nothing)
  held_where_contained arena key = subst (λ there. ContainsKey (slab_of arena) key ↔ (there ≢ Nothing)) (sym (held_in_slab arena key)) (slot_held held_as slab.is_held (get (slab_of arena) key))

  -- the spare capacity of the kind is that of the slab
  pub room_of_slab : (arena : Arena H L) → room arena kind ≡ slab_room (slab_of arena)
  room_of_slab arena = ap (λ has. has.room) (slab.slab_read arena)

  -- and so is the capacity
  pub capacity_of_slab : (arena : Arena H L) → capacity arena kind ≡ (slab_of arena).capacity
  capacity_of_slab arena = ap (λ has. has.capacity) (slab.slab_read arena)

  -- writing the slab leaves the nodes of the other kinds unchanged
  pub others_kept : (arena : Arena H L) (slots : Slab N) (other : NodeType) (key : ℕ) → other ≢ kind → held_under (with_slab arena slots) other key ≡ held_under arena other key
  others_kept arena slots other key differ = ap (λ has. has.nodes key) (slab.rest_kept arena slots other differ)

  -- and their spare capacity
  pub other_room : (arena : Arena H L) (slots : Slab N) → SameOtherRoom arena (with_slab arena slots) kind
  other_room arena slots = λ other differ. ap (λ has. has.room) (slab.rest_kept arena slots other differ)

  -- and their capacity
  pub other_capacity : (arena : Arena H L) (slots : Slab N) → SameOtherCapacity arena (with_slab arena slots) kind
  other_capacity arena slots = λ other differ. ap (λ has. has.capacity) (slab.rest_kept arena slots other differ)
