use Rattle.std.proofs.Common.{rules}
use Rattle.art_header.proofs.header.HeaderPartialEq.eq.Goals as goal

pub returns-then-self-other-2 : goal.returns-then-self-other-2
returns-then-self-other-2 g c = search rules
