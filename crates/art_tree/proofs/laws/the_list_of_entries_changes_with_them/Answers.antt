use Rattle.art_tree.proofs.SharedLemmas.EntryLists.{list-put, list-same, list-without}
use Rattle.art_tree.proofs.laws.the_list_of_entries_changes_with_them.Goals as goal

pub returns-clause-same : goal.returns-clause-same
returns-clause-same g c = list-same g.K.AsBytes.text

pub returns-clause-put : goal.returns-clause-put
returns-clause-put g c = list-put g.K.AsBytes.text

pub returns-clause-without : goal.returns-clause-without
returns-clause-without g c = list-without g.K.AsBytes.text
