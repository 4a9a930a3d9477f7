use Rattle.std.proofs.Common.{rules}
use Rattle.art_nodes.proofs.commands.child_node.ChildNode.from_header.Goals as goal

pub invariant_of-result : goal.invariant_of-result
invariant_of-result g c = search rules
