use Rattle.art_nodes.proofs.inner_nodes.representations.inner_node_indirect.InnerNodeIndirectInnerNodeRead.prefix_len.Goals as goal

pub returns-clause-value : goal.returns-clause-value
returns-clause-value g c = search

pub returns-clause-fits : goal.returns-clause-fits
returns-clause-fits g c = search
