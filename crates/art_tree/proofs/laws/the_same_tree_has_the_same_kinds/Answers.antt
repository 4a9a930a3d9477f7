use Rattle.art_tree.proofs.SharedLemmas.SameKinds.{same-kinds}
use Rattle.art_tree.proofs.laws.the_same_tree_has_the_same_kinds.Goals as goal

pub returns : goal.returns
returns g c = same-kinds g.K.AsBytes.text
