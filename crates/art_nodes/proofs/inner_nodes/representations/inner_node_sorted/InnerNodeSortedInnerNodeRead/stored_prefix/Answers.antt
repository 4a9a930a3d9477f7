use Rattle.std.proofs.Common.{rules}
use Rattle.art_nodes.proofs.inner_nodes.representations.inner_node_sorted.InnerNodeSortedInnerNodeRead.stored_prefix.Goals as goal

pub returns-clause-stored : goal.returns-clause-stored
returns-clause-stored g c = search

pub returns-clause-capped : goal.returns-clause-capped
returns-clause-capped g c = search rules
