use Rattle.std.proofs.Common.{arith}
use Rattle.std.proofs.lemmas.Grind.{common_steps}
use Rattle.art_header.proofs.header.Header.new.Goals as goal

pub returns : goal.returns
returns g c = grind (arith, common_steps)
