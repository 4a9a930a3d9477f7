use Rattle.std.proofs.Common.{◌*◌}
use Rattle.art_nodes.specs.ByteSet.{HasNoByte}
use Rattle.art_nodes.proofs.inner_nodes.tables.byte_set.ByteSet.first_from.Given as goal

-- no byte before the word is there
abbrev pub invariant-loop-index : goal.invariant-loop-index
invariant-loop-index l = HasNoByte l.self.words l.from (64 * l.index)
