use Rattle.art_nodes.proofs.commands.sequence.Sequence.as_slice.Goals as goal

pub returns : goal.returns
returns g c = search
