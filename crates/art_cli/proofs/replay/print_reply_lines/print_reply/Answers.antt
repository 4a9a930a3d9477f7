use Rattle.std.proofs.Common.{rules}
use Rattle.art_cli.proofs.replay.print_reply_lines.print_reply.Goals as goal

pub returns-in-Child-Some : goal.returns-in-Child-Some
returns-in-Child-Some c = search rules
