use Rattle.std.proofs.Common.{◌≡◌, ◌∙◌, IsSome, Some, None, arith, sym, ap, subst}
use Rattle.slab.specs.Slab.{get}
use Rattle.art_arena.specs.Arena.{slab_room, held_option}
use Rattle.art_arena.specs.SlabLaws.{held_in_slab, held_where_contained, other_room, room_of_slab}
use Rattle.art_arena.proofs.ArenaLemmas.{Changes-called, SameCapacity-written, get-called, room-written}
use Rattle.art_arena.proofs.arena.NodeArena+K+V+PREFIX_LEN.deallocate_node_ptr.Goals as goal

pub returns-clause-removed : goal.returns-clause-removed
returns-clause-removed g c =
    let slab = g.met.N.ArenaNode.is_slab in
    Changes-called slab _ _ _ _ _ None c.slab_mut.ensures.value c.key.ensures c.remove.ensures.updates

pub returns-clause-room : goal.returns-clause-room
returns-clause-room g c =
    let slab = g.met.N.ArenaNode.is_slab in
    let before = room_of_slab slab c.args.self.now in
    let after = room-written slab c.args.self.now c.remove.new.self in
    let lent = ap slab_room c.slab_mut.ensures.value in
    let len = c.remove.ensures.len in
    let capacity = c.remove.ensures.capacity in
    omega arith

pub returns-clause-node : goal.returns-clause-node
returns-clause-node g c =
    let key = c.args.ptr.key in
    let found : get (g.N.InSlab.slab_of c.args.self.now) key ≡ Some c.remove.result = sym (ap (λ s. get s key) c.slab_mut.ensures.value) ∙ sym (ap (get c.slab_mut.result.now) c.key.ensures) ∙ c.remove.ensures.value in
    held_in_slab g.met.N.ArenaNode.is_slab c.args.self.now key ∙ ap (held_option g.N.ArenaNode.held_as) found

pub remove-requires : goal.remove-requires
remove-requires g c =
    let within = (held_where_contained g.met.N.ArenaNode.is_slab c.args.self.now c.args.ptr.key).1 c.requires in
    subst IsSome (sym (get-called _ _ _ _ c.slab_mut.ensures.value c.key.ensures)) within

pub returns-clause-other_room : goal.returns-clause-other_room
returns-clause-other_room g c = other_room g.met.N.ArenaNode.is_slab c.args.self.now c.remove.new.self

pub returns-clause-takes_no_memory : goal.returns-clause-takes_no_memory
returns-clause-takes_no_memory g c =
    let slab = g.met.N.ArenaNode.is_slab in
    let before = room_of_slab slab c.args.self.now in
    let after = room-written slab c.args.self.now c.remove.new.self in
    let lent = ap slab_room c.slab_mut.ensures.value in
    let len = c.remove.ensures.len in
    let capacity = c.remove.ensures.capacity in
    omega arith

pub returns-clause-capacity : goal.returns-clause-capacity
returns-clause-capacity g c =
    let slab = g.met.N.ArenaNode.is_slab in
    SameCapacity-written slab c.args.self.now c.remove.new.self
    (c.remove.ensures.capacity ∙ ap (λ s. s.capacity) c.slab_mut.ensures.value)
