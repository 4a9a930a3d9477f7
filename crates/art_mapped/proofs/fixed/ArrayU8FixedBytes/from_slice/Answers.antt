use Rattle.std.proofs.Common.{rules}
use Rattle.art_mapped.proofs.fixed.ArrayU8FixedBytes.from_slice.Goals as goal

pub returns-clause-text : goal.returns-clause-text
returns-clause-text g c = search rules
