use Rattle.std.proofs.Common.{rules}
use Rattle.art_nodes.proofs.iteration.child_iter.PairIter.next_pair.Goals as goal

pub returns : goal.returns
returns g c = search rules
