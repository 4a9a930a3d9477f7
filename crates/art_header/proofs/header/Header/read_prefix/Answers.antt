use Rattle.std.proofs.Common.{rules}
use Rattle.art_header.proofs.header.Header.read_prefix.Goals as goal

pub returns-clause-stored : goal.returns-clause-stored
returns-clause-stored g c = search rules

pub returns-clause-capped : goal.returns-clause-capped
returns-clause-capped g c = search rules
