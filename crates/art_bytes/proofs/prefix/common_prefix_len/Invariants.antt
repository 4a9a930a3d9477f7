use Rattle.std.proofs.Common.{◌≡◌, ◌+◌, drop, nat_eq}
use Rattle.std.specs.List.{common_prefix_len}
use Rattle.art_bytes.proofs.prefix.common_prefix_len.Given as goal

-- the bytes so far are equal
abbrev pub invariant-loop-place : goal.invariant-loop-place
invariant-loop-place l =
    common_prefix_len nat_eq l.a l.b ≡ l.place + common_prefix_len nat_eq (drop l.place l.a) (drop l.place l.b)
