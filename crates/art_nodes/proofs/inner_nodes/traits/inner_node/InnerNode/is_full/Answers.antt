use Rattle.std.proofs.Common.{rules}
use Rattle.art_nodes.proofs.inner_nodes.traits.inner_node.InnerNode.is_full.Goals as goal

pub returns-clause-full : goal.returns-clause-full
returns-clause-full g c = search rules

pub returns-clause-has_room : goal.returns-clause-has_room
returns-clause-has_room g c = search rules
