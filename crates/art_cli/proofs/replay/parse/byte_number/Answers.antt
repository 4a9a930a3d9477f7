use Rattle.std.proofs.Common.{rules}
use Rattle.art_cli.proofs.replay.parse.byte_number.Goals as goal

pub returns-in_err-number_below-clause-refused : goal.returns-in_err-number_below-clause-refused
returns-in_err-number_below-clause-refused c = search rules
