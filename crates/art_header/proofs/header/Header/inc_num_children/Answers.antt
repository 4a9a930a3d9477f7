use Rattle.std.proofs.Common.{rules}
use Rattle.art_header.proofs.header.Header.inc_num_children.Goals as goal

pub returns : goal.returns
returns g c = search rules
