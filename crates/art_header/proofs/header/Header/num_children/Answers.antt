use Rattle.std.proofs.Common.{rules}
use Rattle.art_header.proofs.header.Header.num_children.Goals as goal

pub returns-clause-value : goal.returns-clause-value
returns-clause-value g c = search rules
