use Rattle.art_nodes.proofs.commands.child_node.ChildNode.node_type.Goals as goal

pub returns : goal.returns
returns g c = cc
