use Rattle.art_nodes.proofs.leaf_node.LeafNode.with_no_siblings.Goals as goal

pub returns-clause-next : goal.returns-clause-next
returns-clause-next g c = search
