use Rattle.std.proofs.Common.{◌≡◌, ◌-◌, [], get_or}
use Rattle.program_lines.specs.Lines.{lines_of}
use Rattle.program_lines.proofs.lines.line_numbered.Given as goal

-- the line is as many lines further on in the rest
abbrev pub invariant-loop-line : goal.invariant-loop-line
invariant-loop-line l = get_or (lines_of l.bytes) (l.number - 1) [] ≡ get_or (lines_of l.rest) (l.number - l._line) []
