use Rattle.art_arena.proofs.TreeLaws.{all-allocated, stands-allocated}
use Rattle.art_arena.proofs.laws.allocating_leaves_trees_standing.Goals as goal

pub returns-clause-tree : goal.returns-clause-tree
returns-clause-tree g c = stands-allocated g.K.AsBytes.text

pub returns-clause-branches : goal.returns-clause-branches
returns-clause-branches g c = all-allocated g.K.AsBytes.text
