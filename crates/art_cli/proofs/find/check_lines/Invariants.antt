use Rattle.std.proofs.Common.{ℕ, List, length}
use Rattle.art_cli.specs.declared.find.command.TreeCommand.{TreeCommand}
use Rattle.art_cli.proofs.FindLines.{AreRead}
use Rattle.art_cli.proofs.find.check_lines.Given as goal

-- the lines so far give commands
abbrev pub invariant-loop-rest : goal.invariant-loop-rest
invariant-loop-rest l = (commands : List (TreeCommand (List ℕ))) × AreRead l.input l.rest l.number commands

abbrev pub decreases-loop-rest : goal.decreases-loop-rest
decreases-loop-rest l = length l.rest
