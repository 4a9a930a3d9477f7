use Rattle.std.proofs.Common.{rules}
use Rattle.art_mapped.proofs.mapped.MappedOverAsBytes.as_bytes.Goals as goal

pub returns-clause-text : goal.returns-clause-text
returns-clause-text g c = search rules
