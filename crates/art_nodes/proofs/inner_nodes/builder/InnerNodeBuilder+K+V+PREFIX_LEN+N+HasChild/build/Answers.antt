use Rattle.art_nodes.proofs.inner_nodes.builder.InnerNodeBuilder+K+V+PREFIX_LEN+N+HasChild.build.Goals as goal

pub returns-clause-node : goal.returns-clause-node
returns-clause-node g c = search

pub returns-clause-two_or_more : goal.returns-clause-two_or_more
returns-clause-two_or_more g c = search
