use Rattle.art_nodes.proofs.leaf_node.LeafNode.previous.Goals as goal

pub returns-in_err-key : goal.returns-in_err-key
returns-in_err-key g c = search

pub returns : goal.returns
returns g c = search
