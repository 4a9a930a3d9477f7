use Rattle.std.proofs.Common.{rules}
use Rattle.art_header.proofs.node_type.NodeType.capacity_range.Goals as goal

pub returns-in-Node48-clause-end : goal.returns-in-Node48-clause-end
returns-in-Node48-clause-end c = search rules
