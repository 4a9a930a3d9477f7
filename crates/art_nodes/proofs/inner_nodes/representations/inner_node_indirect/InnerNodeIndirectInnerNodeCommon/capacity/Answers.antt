use Rattle.art_nodes.proofs.inner_nodes.representations.inner_node_indirect.InnerNodeIndirectInnerNodeCommon.capacity.Goals as goal

pub returns : goal.returns
returns g c = search
