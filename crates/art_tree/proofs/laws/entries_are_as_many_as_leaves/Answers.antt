use Rattle.art_tree.proofs.SharedLemmas.EntryCounts.{art-counted, entry-texts, leaves-counted, list-fit}
use Rattle.art_tree.proofs.laws.entries_are_as_many_as_leaves.Goals as goal

pub returns-clause-texts : goal.returns-clause-texts
returns-clause-texts g c = entry-texts g.K.AsBytes.text

pub returns-clause-leaves : goal.returns-clause-leaves
returns-clause-leaves g c = leaves-counted g.K.AsBytes.text

pub returns-clause-entries : goal.returns-clause-entries
returns-clause-entries g c = art-counted g.K.AsBytes.text

pub returns-clause-linked : goal.returns-clause-linked
returns-clause-linked g c = list-fit
