use Rattle.std.proofs.Common.{sym, ◌∙◌}
use Rattle.program_lines.proofs.Parts.{lines_cut, lines_alone}
use Rattle.program_lines.proofs.lines.first_line.Goals as goal

pub returns-in-Some-clause-lines : goal.returns-in-Some-clause-lines
returns-in-Some-clause-lines c = lines_cut c.args.bytes.now c.in-Some.end (sym c.position_of.ensures.index ∙ c.in-Some.is)

pub returns-in-None-clause-lines : goal.returns-in-None-clause-lines
returns-in-None-clause-lines c = lines_alone c.args.bytes.now c.requires (sym c.position_of.ensures.index ∙ c.in-None.is)
