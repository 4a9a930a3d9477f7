use Rattle.std.proofs.Common.{sym, ◌∙◌}
use Rattle.program_lines.proofs.Cuts.{cut_at, none_at}
use Rattle.program_lines.proofs.lines.split_once.Goals as goal

pub returns-in-Some-clause-cut : goal.returns-in-Some-clause-cut
returns-in-Some-clause-cut c = cut_at c.args.at c.args.bytes.now c.in-Some.index (sym c.position_of.ensures.index ∙ c.in-Some.is)

pub returns-in-None-clause-none : goal.returns-in-None-clause-none
returns-in-None-clause-none c = none_at c.args.at c.args.bytes.now (sym c.position_of.ensures.index ∙ c.in-None.is)
