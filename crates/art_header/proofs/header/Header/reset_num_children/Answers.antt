use Rattle.std.proofs.Common.{rules}
use Rattle.art_header.proofs.header.Header.reset_num_children.Goals as goal

pub returns-clause-count : goal.returns-clause-count
returns-clause-count g c = search rules
