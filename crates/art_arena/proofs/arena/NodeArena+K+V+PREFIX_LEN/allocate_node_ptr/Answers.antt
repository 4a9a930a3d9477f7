use Rattle.std.proofs.Common.{◌∙◌, Some, ap, sym, arith}
use Rattle.slab.specs.Slab.{get}
use Rattle.art_arena.specs.Arena.{slab_room, held_option}
use Rattle.art_arena.specs.SlabLaws.{held_in_slab, other_capacity, other_room, room_of_slab}
use Rattle.art_arena.proofs.ArenaLemmas.{Changes-called, SameCapacity-written, SameNodes-written, get-called, room-written}
use Rattle.art_arena.proofs.arena.NodeArena+K+V+PREFIX_LEN.allocate_node_ptr.Goals as goal

pub returns-in-Ok-clause-added : goal.returns-in-Ok-clause-added
returns-in-Ok-clause-added g c =
    let slab = g.met.N.ArenaNode.is_slab in
    Changes-called slab _ _ _ _ _ (Some c.args.node) c.slab_mut.ensures.value (sym c.from_key.ensures) c.in-Ok.ensures.updates

pub returns-in-Err-clause-nodes_kept : goal.returns-in-Err-clause-nodes_kept
returns-in-Err-clause-nodes_kept g c =
    let slab = g.met.N.ArenaNode.is_slab in
    SameNodes-written slab c.args.self.now c.insert.new.self
    (λ key. ap (λ s. get s key) c.in-Err.ensures.err ∙ ap (λ s. get s key) c.slab_mut.ensures.value)

pub returns-in-Ok-clause-was_free : goal.returns-in-Ok-clause-was_free
returns-in-Ok-clause-was_free g c =
    let key = c.from_key.result.key in
    let vacant = sym (get-called _ _ _ _ c.slab_mut.ensures.value (sym c.from_key.ensures)) ∙ c.in-Ok.ensures.was_vacant in
    held_in_slab g.met.N.ArenaNode.is_slab c.args.self.now key ∙ ap (held_option g.N.ArenaNode.held_as) vacant

pub returns-in-Ok-clause-room : goal.returns-in-Ok-clause-room
returns-in-Ok-clause-room g c =
    let slab = g.met.N.ArenaNode.is_slab in
    let before = room_of_slab slab c.args.self.now in
    let after = room-written slab c.args.self.now c.insert.new.self in
    let lent = ap slab_room c.slab_mut.ensures.value in
    let len = c.in-Ok.ensures.len in
    let capacity = c.in-Ok.ensures.capacity in
    omega arith

pub returns-in-Ok-clause-other_room : goal.returns-in-Ok-clause-other_room
returns-in-Ok-clause-other_room g c = other_room g.met.N.ArenaNode.is_slab c.args.self.now c.insert.new.self

pub returns-in-Err-clause-succeeds : goal.returns-in-Err-clause-succeeds
returns-in-Err-clause-succeeds g c = λ some.
    let room = room_of_slab g.met.N.ArenaNode.is_slab c.args.self.now in
    let lent = ap slab_room c.slab_mut.ensures.value in
    c.in-Err.ensures.succeeds (omega (arith, some, room, lent))

pub returns-in-Err-clause-other_room : goal.returns-in-Err-clause-other_room
returns-in-Err-clause-other_room g c = other_room g.met.N.ArenaNode.is_slab c.args.self.now c.insert.new.self

pub returns-in-Ok-clause-is_held : goal.returns-in-Ok-clause-is_held
returns-in-Ok-clause-is_held g c = λ gone. g.met.N.ArenaNode.is_slab.is_held c.args.node (sym (returns-in-Ok-clause-added g c).changed ∙ gone)

pub returns-in-Ok-clause-takes_no_memory : goal.returns-in-Ok-clause-takes_no_memory
returns-in-Ok-clause-takes_no_memory g c = λ some.
    let slab = g.met.N.ArenaNode.is_slab in
    let before = room_of_slab slab c.args.self.now in
    let after = room-written slab c.args.self.now c.insert.new.self in
    let lent = ap slab_room c.slab_mut.ensures.value in
    let len = c.in-Ok.ensures.len in
    let capacity = c.in-Ok.ensures.had_room (omega (arith, some, before, lent)) in
    omega (arith, some, before, after, lent, len, capacity)

pub returns-in-Ok-clause-other_capacity : goal.returns-in-Ok-clause-other_capacity
returns-in-Ok-clause-other_capacity g c = other_capacity g.met.N.ArenaNode.is_slab c.args.self.now c.insert.new.self

pub returns-in-Ok-clause-no_growth : goal.returns-in-Ok-clause-no_growth
returns-in-Ok-clause-no_growth g c = λ some.
    let slab = g.met.N.ArenaNode.is_slab in
    let before = room_of_slab slab c.args.self.now in
    let lent = ap slab_room c.slab_mut.ensures.value in
    SameCapacity-written slab c.args.self.now c.insert.new.self
    (c.in-Ok.ensures.had_room (omega (arith, some, before, lent)) ∙ ap (λ s. s.capacity) c.slab_mut.ensures.value)

pub returns-in-Err-clause-other_capacity : goal.returns-in-Err-clause-other_capacity
returns-in-Err-clause-other_capacity g c = other_capacity g.met.N.ArenaNode.is_slab c.args.self.now c.insert.new.self

pub returns-in-Err-clause-no_growth : goal.returns-in-Err-clause-no_growth
returns-in-Err-clause-no_growth g c = λ some.
    let slab = g.met.N.ArenaNode.is_slab in
    let before = room_of_slab slab c.args.self.now in
    let lent = ap slab_room c.slab_mut.ensures.value in
    SameCapacity-written slab c.args.self.now c.insert.new.self
    (c.in-Err.ensures.had_room (omega (arith, some, before, lent)) ∙ ap (λ s. s.capacity) c.slab_mut.ensures.value)
