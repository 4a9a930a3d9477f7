use Rattle.std.proofs.Common.{arith}
use Rattle.std.proofs.lemmas.Grind.{common_steps}
use Rattle.art_nodes.proofs.inner_nodes.tables.byte_set.ByteSet.contains.Goals as goal

pub returns : goal.returns
returns c = grind (arith, common_steps)
