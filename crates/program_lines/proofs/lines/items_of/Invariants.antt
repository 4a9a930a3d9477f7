use Rattle.std.proofs.Common.{length}
use Rattle.program_lines.specs.Lines.{lines_of}
use Rattle.program_lines.proofs.SaidLines.{SaidSoFar}
use Rattle.program_lines.proofs.lines.items_of.Given as goal

-- the lines before the rest say the items
abbrev pub invariant-loop-rest : goal.invariant-loop-rest
invariant-loop-rest g l = SaidSoFar g.L.ReadLine.reads (lines_of l.bytes) l.rest l.items.items

abbrev pub decreases-loop-rest : goal.decreases-loop-rest
decreases-loop-rest g l = length l.rest
