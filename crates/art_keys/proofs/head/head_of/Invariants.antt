use Rattle.std.proofs.Common.{◌≡◌, ◌<◌, ◌^◌, drop}
use Rattle.art_keys.specs.Heads as heads
use Rattle.art_keys.proofs.head.head_of.Given as goal

abbrev pub invariant-loop-place : goal.invariant-loop-place
invariant-loop-place g l = record { read : l.head ≡ heads.head_of l.place (drop l.fn.skip (g.B.ByteSource.text l.bytes)); small : l.head < 256 ^ l.place }
