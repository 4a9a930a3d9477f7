use Rattle.art_tree.proofs.SharedLemmas.UniqueTree.{same-tree}
use Rattle.art_tree.proofs.laws.the_same_texts_make_the_same_tree.Goals as goal

pub returns : goal.returns
returns g c = same-tree
