use Rattle.std.proofs.Common.{arith}
use Rattle.std.proofs.lemmas.Grind.{common_steps}
use Rattle.art_cli.proofs.find.print_found.ShownDisplay.fmt.Goals as goal

pub returns-in-Normal-clause-writes : goal.returns-in-Normal-clause-writes
returns-in-Normal-clause-writes g c = grind (arith, common_steps)
