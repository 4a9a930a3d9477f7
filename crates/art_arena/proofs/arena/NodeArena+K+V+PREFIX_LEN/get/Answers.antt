use Rattle.std.proofs.Common.{◌∙◌, sym, ap}
use Rattle.art_arena.specs.Arena.{held_option}
use Rattle.art_arena.specs.SlabLaws.{held_in_slab}
use Rattle.art_arena.proofs.ArenaLemmas.{get-called}
use Rattle.art_arena.proofs.arena.NodeArena+K+V+PREFIX_LEN.get.Goals as goal

pub returns : goal.returns
returns g c = held_in_slab g.met.N.ArenaNode.is_slab c.args.self.now c.args.ptr.key ∙ ap (held_option g.N.ArenaNode.held_as) (sym (c.get.ensures ∙ get-called _ _ _ _ c.slab.ensures c.key.ensures))
