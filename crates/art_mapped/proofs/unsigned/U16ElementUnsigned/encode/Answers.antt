use Rattle.std.proofs.Common.{rules}
use Rattle.art_mapped.proofs.unsigned.U16ElementUnsigned.encode.Goals as goal

pub returns-clause-text : goal.returns-clause-text
returns-clause-text c = search rules
