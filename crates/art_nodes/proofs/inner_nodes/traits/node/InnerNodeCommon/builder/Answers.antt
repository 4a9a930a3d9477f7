use Rattle.art_nodes.proofs.inner_nodes.traits.node.InnerNodeCommon.builder.Goals as goal

pub returns : goal.returns
returns g c = search
