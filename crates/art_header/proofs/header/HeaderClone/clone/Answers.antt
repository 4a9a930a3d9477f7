use Rattle.std.proofs.Common.{rules}
use Rattle.art_header.proofs.header.HeaderClone.clone.Goals as goal

pub returns : goal.returns
returns g c = search rules
