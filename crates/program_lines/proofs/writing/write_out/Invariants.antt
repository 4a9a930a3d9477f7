use Rattle.std.proofs.Common.{take}
use Rattle.std.specs.Io.KnownBytes.{Appends}
use Rattle.program_lines.proofs.writing.write_out.Given as goal

-- what is written so far
abbrev pub invariant-loop : goal.invariant-loop
invariant-loop g l =
    Appends (g.W.Write.contents l.initial.output) (g.W.Write.contents l.output) (take l.written l.text)
