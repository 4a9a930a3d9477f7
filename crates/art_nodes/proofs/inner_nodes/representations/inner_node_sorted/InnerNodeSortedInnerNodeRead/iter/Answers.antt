use Rattle.std.proofs.Common.{rules}
use Rattle.art_nodes.proofs.inner_nodes.representations.inner_node_sorted.InnerNodeSortedInnerNodeRead.iter.Goals as goal

pub returns-clause-pairs : goal.returns-clause-pairs
returns-clause-pairs g c = search rules
