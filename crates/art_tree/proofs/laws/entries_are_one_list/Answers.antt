use Rattle.art_tree.proofs.SharedLemmas.EntryLists.{are-entries, entry-listed, listed-entry, no-list, one-list}
use Rattle.art_tree.proofs.laws.entries_are_one_list.Goals as goal

pub returns-clause-list : goal.returns-clause-list
returns-clause-list g c = are-entries g.K.AsBytes.text

pub returns-clause-only : goal.returns-clause-only
returns-clause-only g c = one-list g.K.AsBytes.text

pub returns-clause-members : goal.returns-clause-members
returns-clause-members g c = λ arena entry. (listed-entry g.K.AsBytes.text arena entry, entry-listed g.K.AsBytes.text arena entry)

pub returns-clause-none : goal.returns-clause-none
returns-clause-none g c = no-list g.K.AsBytes.text
