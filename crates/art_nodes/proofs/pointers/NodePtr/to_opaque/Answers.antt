use Rattle.art_nodes.proofs.pointers.NodePtr.to_opaque.Goals as goal

pub returns : goal.returns
returns g c = search
