use Rattle.std.proofs.Common.{rules}
use Rattle.art_header.proofs.header.Header.clear_prefix.Goals as goal

pub returns-clause-capped_len : goal.returns-clause-capped_len
returns-clause-capped_len g c = search rules

pub returns-clause-len : goal.returns-clause-len
returns-clause-len g c = search rules

pub returns-clause-bytes : goal.returns-clause-bytes
returns-clause-bytes g c = search rules

pub returns-clause-cleared : goal.returns-clause-cleared
returns-clause-cleared g c = search rules
