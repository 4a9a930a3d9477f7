use Rattle.std.proofs.Common.{rules}
use Rattle.art_mapped.proofs.mapped.MappedOverPartialEq.eq.Goals as goal

pub returns : goal.returns
returns g c = search rules
