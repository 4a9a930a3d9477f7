use Rattle.std.proofs.Common.{rules}
use Rattle.art_header.proofs.header.Header.set_prefix.Goals as goal

pub returns-clause-prefix : goal.returns-clause-prefix
returns-clause-prefix g c = search rules
