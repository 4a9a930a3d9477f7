use Rattle.std.proofs.Common.{rules}
use Rattle.art_arena.proofs.arena.NodeArena+K+V+PREFIX_LEN.holds_opaque.Goals as goal

pub returns-in-Node16 : goal.returns-in-Node16
returns-in-Node16 g c = search rules
