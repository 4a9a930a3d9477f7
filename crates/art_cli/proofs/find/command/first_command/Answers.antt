use Rattle.std.proofs.Common.{[], refl}
use Rattle.program_lines.specs.Lines.{lines_of}
use Rattle.art_cli.proofs.find.command.first_command.Goals as goal

pub returns-in-None-clause-nothing_said : goal.returns-in-None-clause-nothing_said
returns-in-None-clause-nothing_said c =
    (c.failure_at.ensures, ([], lines_of c.first_line.result.1.now, c.first_line.result.0.now, [], c.first_line.ensures.lines, refl, tt, c.in-None.ensures))
