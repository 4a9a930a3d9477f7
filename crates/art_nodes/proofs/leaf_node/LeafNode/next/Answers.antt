use Rattle.art_nodes.proofs.leaf_node.LeafNode.next.Goals as goal

pub returns : goal.returns
returns g c = search
