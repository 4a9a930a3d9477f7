use Rattle.std.proofs.Common.{◌≡◌, length, take}
use Rattle.art_index.proofs.anchor.short_encoding.Given as goal

-- the bytes up to this one
abbrev pub invariant-loop-index : goal.invariant-loop-index
invariant-loop-index g l = record {
  long : length l.bytes ≡ 22;
  same : take l.index l.bytes ≡ take l.index (g.K.KeyBytes.encoded l.key);
}
