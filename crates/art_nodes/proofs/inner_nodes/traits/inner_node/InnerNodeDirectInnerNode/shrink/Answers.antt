use Rattle.art_nodes.proofs.inner_nodes.traits.inner_node.InnerNodeDirectInnerNode.shrink.Goals as goal

pub returns : goal.returns
returns g c = search
