use Rattle.std.proofs.Common.{rules}
use Rattle.art_mapped.proofs.fixed.ArrayU8FixedBytes.WIDTH.Goals as goal

pub returns : goal.returns
returns g c = search rules
