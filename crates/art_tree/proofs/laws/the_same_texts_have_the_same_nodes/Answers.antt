use Rattle.art_tree.proofs.SharedLemmas.UniqueTree.{same-nodes}
use Rattle.art_tree.proofs.laws.the_same_texts_have_the_same_nodes.Goals as goal

pub returns : goal.returns
returns g c = same-nodes
