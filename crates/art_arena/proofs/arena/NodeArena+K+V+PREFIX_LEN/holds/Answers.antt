use Rattle.std.proofs.Common.{rules}
use Rattle.art_arena.specs.SlabLaws.{held_where_contained}
use Rattle.art_arena.proofs.arena.NodeArena+K+V+PREFIX_LEN.holds.Goals as goal

pub returns : goal.returns
returns g c = let law = held_where_contained g.met.N.ArenaNode.is_slab c.args.self.now c.args.ptr.key in
    let a = c.contains.ensures in let b = c.slab.ensures in let k = c.key.ensures in search rules
