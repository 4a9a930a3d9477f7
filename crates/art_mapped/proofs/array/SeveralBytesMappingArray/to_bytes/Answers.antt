use Rattle.std.proofs.Common.{rules}
use Rattle.art_mapped.proofs.array.SeveralBytesMappingArray.to_bytes.Goals as goal

pub returns-clause-text : goal.returns-clause-text
returns-clause-text g c = search rules

pub returns-clause-stands : goal.returns-clause-stands
returns-clause-stands g c = search rules
