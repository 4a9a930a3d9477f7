use Rattle.std.proofs.Common.{rules}
use Rattle.art_nodes.proofs.commands.sequence.SequencePartialEq.eq.Goals as goal

pub returns : goal.returns
returns g c = search rules
