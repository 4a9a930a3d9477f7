use Rattle.std.proofs.Common.{arith}
use Rattle.std.proofs.lemmas.Grind.{common_steps}
use Rattle.art_cli.proofs.replay.parse.bound.Goals as goal

pub returns-in_ok-byte_number-in-101-clause-said :
    goal.returns-in_ok-byte_number-in-101-clause-said
returns-in_ok-byte_number-in-101-clause-said c = grind (arith, common_steps)
