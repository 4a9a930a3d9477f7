use Rattle.std.proofs.Common.{◌≡◌, ◌<◌, ◌^◌, drop}
use Rattle.art_keys.specs.Heads.{head_of}
use Rattle.art_keys.proofs.key.RadixKey.encoded_head.Given as goal

abbrev pub invariant-loop-place : goal.invariant-loop-place
invariant-loop-place g l = record { read : l.head ≡ head_of l.place (drop l.fn.skip (g.Self.KeyBytes.encoded l.self)); small : l.head < 256 ^ l.place }
