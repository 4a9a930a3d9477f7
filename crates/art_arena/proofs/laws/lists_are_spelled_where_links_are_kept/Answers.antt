use Rattle.art_arena.proofs.KeptLemmas.{list-beside, list-exchanged}
use Rattle.art_arena.proofs.laws.lists_are_spelled_where_links_are_kept.Goals as goal

pub returns-clause-inner : goal.returns-clause-inner
returns-clause-inner g c = list-beside

pub returns-clause-leaf : goal.returns-clause-leaf
returns-clause-leaf g c = λ old new key was now keys found changes same_previous same_next. list-exchanged old new key was now found changes same_previous same_next keys
