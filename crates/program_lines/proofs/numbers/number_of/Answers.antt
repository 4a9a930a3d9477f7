use Rattle.program_lines.proofs.NumberLemmas.{number_is_text}
use Rattle.program_lines.proofs.numbers.number_of.Goals as goal

pub returns-in_default : goal.returns-in_default
returns-in_default c n is =
    absurd (c.in_default.ensures.cases.0 (number_is_text c.args.word.now n is))
