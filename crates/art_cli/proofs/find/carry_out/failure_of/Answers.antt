use Rattle.std.proofs.Common.{rules}
use Rattle.art_cli.proofs.find.carry_out.failure_of.Goals as goal

pub returns-in-Prefix : goal.returns-in-Prefix
returns-in-Prefix c = search rules
