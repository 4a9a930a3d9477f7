use Rattle.art_nodes.proofs.leaf_node.LeafNode.key_ref_value_mut.Goals as goal

pub returns : goal.returns
returns g c = search
