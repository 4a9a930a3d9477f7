use Rattle.art_nodes.proofs.pointers.OpaqueNodePtr.node_type.Goals as goal

pub returns : goal.returns
returns g c = search
