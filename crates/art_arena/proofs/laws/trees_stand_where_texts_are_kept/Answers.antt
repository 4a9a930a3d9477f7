use Rattle.art_arena.proofs.KeptLemmas.{stands-relinked, stands-exchanged}
use Rattle.art_arena.proofs.laws.trees_stand_where_texts_are_kept.Goals as goal

pub returns-clause-links : goal.returns-clause-links
returns-clause-links g c = stands-relinked g.K.AsBytes.text

pub returns-clause-leaf : goal.returns-clause-leaf
returns-clause-leaf g c = λ old new key was now tree found changes same_text. stands-exchanged g.K.AsBytes.text old new key was now found changes tree same_text
