use Rattle.std.proofs.Common.{List, ℕ}
use Rattle.std.specs.Io.Buffered.{reader_remaining}
use Rattle.program_lines.specs.Messages.{IsMessage}
use Rattle.program_lines.proofs.AnswerLemmas.{Session}
use Rattle.program_lines.proofs.session.answer_lines.Given as goal

-- the lines so far are answered
abbrev pub invariant-loop-number : goal.invariant-loop-number
invariant-loop-number g l =
    (file : List ℕ) → g.P.Program.is_table file l.table
    → Session (g.P.Program.is_reply file) (IsMessage g.P.Fault.Display.output g.P.Program.has_fault l.names.program.now)
    (reader_remaining g.R.Read.remaining l.initial.input) (reader_remaining g.R.Read.remaining l.input)
    (g.W.Write.contents l.initial.output) (g.W.Write.contents l.output) (g.E.Write.contents l.initial.errors) (g.E.Write.contents l.errors)
    l.initial.waiting.items l.waiting.items l.number l.quiet
