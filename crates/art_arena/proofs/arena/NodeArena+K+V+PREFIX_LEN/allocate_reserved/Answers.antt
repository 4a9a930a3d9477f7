use Rattle.std.proofs.Common.{◌∙◌, Some, ap, sym, arith}
use Rattle.art_arena.specs.Arena.{slab_room, held_option}
use Rattle.art_arena.specs.SlabLaws.{held_in_slab, other_room, room_of_slab}
use Rattle.art_arena.proofs.ArenaLemmas.{Changes-called, SameCapacity-written, get-called, room-written}
use Rattle.art_arena.proofs.arena.NodeArena+K+V+PREFIX_LEN.allocate_reserved.Goals as goal

pub insert_reserved-key-requires : goal.insert_reserved-key-requires
insert_reserved-key-requires g c =
    let some = c.requires in
    let before = room_of_slab g.met.N.ArenaNode.is_slab c.args.self.now in
    let lent = ap slab_room c.slab_mut.ensures.value in
    omega (arith, some, before, lent)

pub returns-clause-added : goal.returns-clause-added
returns-clause-added g c =
    let slab = g.met.N.ArenaNode.is_slab in
    Changes-called slab _ _ _ _ _ (Some c.args.node) c.slab_mut.ensures.value (sym c.from_key.ensures) c.insert_reserved-key.ensures.updates

pub returns-clause-was_free : goal.returns-clause-was_free
returns-clause-was_free g c =
    let key = c.from_key.result.key in
    let vacant = sym (get-called _ _ _ _ c.slab_mut.ensures.value (sym c.from_key.ensures)) ∙ c.insert_reserved-key.ensures.was_vacant in
    held_in_slab g.met.N.ArenaNode.is_slab c.args.self.now key ∙ ap (held_option g.N.ArenaNode.held_as) vacant

pub returns-clause-is_held : goal.returns-clause-is_held
returns-clause-is_held g c = λ gone. g.met.N.ArenaNode.is_slab.is_held c.args.node (sym (returns-clause-added g c).changed ∙ gone)

pub returns-clause-room : goal.returns-clause-room
returns-clause-room g c =
    let slab = g.met.N.ArenaNode.is_slab in
    let before = room_of_slab slab c.args.self.now in
    let after = room-written slab c.args.self.now c.insert_reserved-key.new.self in
    let lent = ap slab_room c.slab_mut.ensures.value in
    let len = c.insert_reserved-key.ensures.len in
    let capacity = c.insert_reserved-key.ensures.capacity in
    omega arith

pub returns-clause-other_room : goal.returns-clause-other_room
returns-clause-other_room g c = other_room g.met.N.ArenaNode.is_slab c.args.self.now c.insert_reserved-key.new.self

pub returns-clause-capacity : goal.returns-clause-capacity
returns-clause-capacity g c =
    let slab = g.met.N.ArenaNode.is_slab in
    SameCapacity-written slab c.args.self.now c.insert_reserved-key.new.self
    (c.insert_reserved-key.ensures.capacity ∙ ap (λ s. s.capacity) c.slab_mut.ensures.value)
