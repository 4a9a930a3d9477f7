use Rattle.art_nodes.proofs.pointers.OpaqueNodePtrDefault.default.Goals as goal

pub returns : goal.returns
returns g c = search
