use Rattle.std.proofs.Common.{rules}
use Rattle.art_mapped.proofs.mapped.MappedOverHash.hash.Goals as goal

pub returns : goal.returns
returns g c = search rules
