use Rattle.std.proofs.Common.{rules}
use Rattle.art_mapped.proofs.unsigned.NonZeroU8ElementUnsigned.decode.Goals as goal

pub returns-clause-some : goal.returns-clause-some
returns-clause-some c = search rules
