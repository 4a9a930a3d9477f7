use Rattle.art_nodes.proofs.leaf_node.LeafNode.value_mut.Goals as goal

pub returns : goal.returns
returns g c = search
