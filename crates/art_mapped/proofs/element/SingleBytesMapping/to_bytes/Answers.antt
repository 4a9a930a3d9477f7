use Rattle.std.proofs.Common.{rules}
use Rattle.art_mapped.proofs.element.SingleBytesMapping.to_bytes.Goals as goal

pub returns-clause-takes_no_memory : goal.returns-clause-takes_no_memory
returns-clause-takes_no_memory g c = search rules
