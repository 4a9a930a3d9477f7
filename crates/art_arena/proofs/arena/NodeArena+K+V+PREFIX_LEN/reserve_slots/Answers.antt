use Rattle.std.proofs.Common.{◌∙◌, ◌≤◌, ap, refl, arith, rules}
use Rattle.slab.specs.Slab.{get, slab_len}
use Rattle.art_arena.specs.Arena.{slab_room}
use Rattle.art_arena.specs.SlabLaws.{other_capacity, other_room, room_of_slab}
use Rattle.art_arena.proofs.ArenaLemmas.{SameNodes-written, SameRoom-written, made_room, room-written}
use Rattle.art_arena.proofs.arena.NodeArena+K+V+PREFIX_LEN.reserve_slots.Goals as goal

pub returns-then-additional-eq0-clause-had_room : goal.returns-then-additional-eq0-clause-had_room
returns-then-additional-eq0-clause-had_room g c = λ _ other. refl

pub returns-then-additional-eq0-clause-no_less_room : goal.returns-then-additional-eq0-clause-no_less_room
returns-then-additional-eq0-clause-no_less_room g c = search rules

pub returns-then-additional-eq0-clause-other_room : goal.returns-then-additional-eq0-clause-other_room
returns-then-additional-eq0-clause-other_room g c = search rules

pub returns-clause-had_room : goal.returns-clause-had_room
returns-clause-had_room g c = λ asks.
    let slab = g.met.N.ArenaNode.is_slab in
    let bound : c.args.additional ≤ slab_room c.slab_mut.result.now = rw (c.slab_mut.ensures.value, ← room_of_slab slab c.args.self.now) asks in
    let same = c.reserve.ensures.had_room (omega (arith, bound)) in
    SameRoom-written slab c.args.self.now c.reserve.new.self (ap slab_room (same ∙ c.slab_mut.ensures.value)) (ap (λ s. s.capacity) (same ∙ c.slab_mut.ensures.value))

pub returns-clause-nodes_kept : goal.returns-clause-nodes_kept
returns-clause-nodes_kept g c =
    let slab = g.met.N.ArenaNode.is_slab in
    SameNodes-written slab c.args.self.now c.reserve.new.self
    (λ key. ap (λ s. get s key) c.reserve.ensures.rest_kept ∙ ap (λ s. get s key) c.slab_mut.ensures.value)

pub returns-clause-succeeds : goal.returns-clause-succeeds
returns-clause-succeeds g c = λ asks.
    let slab = g.met.N.ArenaNode.is_slab in
    let bound : c.args.additional ≤ slab_room c.slab_mut.result.now = rw (c.slab_mut.ensures.value, ← room_of_slab slab c.args.self.now) asks in
    c.reserve.ensures.succeeds (omega (arith, bound))

pub returns-clause-room : goal.returns-clause-room
returns-clause-room g c =
    let slab = g.met.N.ArenaNode.is_slab in
    rw (room-written slab c.args.self.now c.reserve.new.self) (made_room c.reserve.result c.reserve.new.self c.args.additional c.reserve.ensures.room)

pub returns-clause-no_less_room : goal.returns-clause-no_less_room
returns-clause-no_less_room g c =
    let slab = g.met.N.ArenaNode.is_slab in
    let before = room_of_slab slab c.args.self.now in
    let after = room-written slab c.args.self.now c.reserve.new.self in
    let lent = ap slab_room c.slab_mut.ensures.value in
    let len = ap slab_len c.reserve.ensures.rest_kept in
    let capacity = c.reserve.ensures.capacity in
    omega arith

pub returns-clause-other_room : goal.returns-clause-other_room
returns-clause-other_room g c = other_room g.met.N.ArenaNode.is_slab c.args.self.now c.reserve.new.self

pub returns-then-additional-eq0-clause-other_capacity : goal.returns-then-additional-eq0-clause-other_capacity
returns-then-additional-eq0-clause-other_capacity g c = search rules

pub returns-clause-other_capacity : goal.returns-clause-other_capacity
returns-clause-other_capacity g c = other_capacity g.met.N.ArenaNode.is_slab c.args.self.now c.reserve.new.self
