use Rattle.art_nodes.proofs.pointers.NodePtr.from_key.Goals as goal

pub returns : goal.returns
returns g c = search
