use Rattle.std.proofs.Common.{rules}
use Rattle.art_arena.proofs.reader.ArenaReader+K+V+PREFIX_LEN.remaining.Goals as goal

pub returns : goal.returns
returns g c = search rules
