use Rattle.std.proofs.Common.{refl}
use Rattle.art_nodes.proofs.commands.sequence.Sequence.from_vec.Goals as goal

pub returns : goal.returns
returns g c = refl
