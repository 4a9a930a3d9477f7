use Rattle.std.proofs.Common.{length, string_bytes}
use Rattle.art_cli.proofs.FindLines.{Underway}
use Rattle.art_cli.proofs.find.replies_text.Given as goal

-- the commands of the lines so far are carried out
abbrev pub invariant-loop-rest : goal.invariant-loop-rest
invariant-loop-rest g l = Underway l.input l.rest l.number l.next l.tree.arena (string_bytes l.text)

abbrev pub decreases-loop-rest : goal.decreases-loop-rest
decreases-loop-rest g l = length l.rest
