use Rattle.art_nodes.proofs.pointers.NodePtr.key.Goals as goal

pub returns : goal.returns
returns g c = search
