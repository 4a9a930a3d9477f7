use Rattle.art_nodes.proofs.commands.sequence.Sequence.into_vec.Goals as goal

pub returns : goal.returns
returns g c = search
