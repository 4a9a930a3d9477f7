use Rattle.std.proofs.Common.{rules}
use Rattle.art_header.proofs.node_type.NodeType.should_shrink_inner_node.Goals as goal

pub returns-in-Node4-clause-smallest : goal.returns-in-Node4-clause-smallest
returns-in-Node4-clause-smallest c = search rules

pub returns-in_default : goal.returns-in_default
returns-in_default c = search rules
