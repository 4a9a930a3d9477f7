use Rattle.art_nodes.proofs.inner_nodes.representations.inner_node_direct.InnerNodeDirectNode.TYPE.Goals as goal

pub returns : goal.returns
returns g c = search
