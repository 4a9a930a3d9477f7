use Rattle.std.proofs.Common.{◌≡◌, take}
use Rattle.art_index.proofs.anchor.long_encoding.Given as goal

-- the bytes up to this one
abbrev pub invariant-loop-index : goal.invariant-loop-index
invariant-loop-index g l = l.bytes.items ≡ take l.index (g.K.KeyBytes.encoded l.key)
