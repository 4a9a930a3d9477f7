use Rattle.std.proofs.Common.{◌≡◌, take}
use Rattle.art_keys.proofs.in_memory.encoding_prefix.Given as goal

abbrev pub invariant-loop-index : goal.invariant-loop-index
invariant-loop-index g l = l.bytes.items ≡ take l.index (g.K.KeyBytes.encoded l.key)
