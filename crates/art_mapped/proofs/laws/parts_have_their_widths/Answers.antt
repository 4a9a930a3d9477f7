use Rattle.art_mapped.proofs.Values.{width_of_first, width_of_last, width_of_part}
use Rattle.art_mapped.proofs.laws.parts_have_their_widths.Goals as goal

pub returns-clause-first : goal.returns-clause-first
returns-clause-first c = width_of_first

pub returns-clause-last : goal.returns-clause-last
returns-clause-last c = width_of_last

pub returns-clause-part : goal.returns-clause-part
returns-clause-part c = width_of_part
