use Rattle.art_arena.proofs.KnitLemmas.{knit-member, next-member, previous-member, first-member}
use Rattle.art_arena.proofs.laws.each_leaf_of_a_list_is_knit.Goals as goal

pub returns-clause-knit : goal.returns-clause-knit
returns-clause-knit g c = knit-member

pub returns-clause-next : goal.returns-clause-next
returns-clause-next g c = next-member

pub returns-clause-previous : goal.returns-clause-previous
returns-clause-previous g c = previous-member

pub returns-clause-first : goal.returns-clause-first
returns-clause-first g c = first-member
