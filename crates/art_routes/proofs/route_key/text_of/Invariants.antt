use Rattle.std.proofs.Common.{◌≡◌, ◌+◌, ◌-◌, ◌%◌, ◌++◌, length, take}
use Rattle.art_routes.specs.Keys.{key_text}
use Rattle.art_routes.specs.Strides.{strides}
use Rattle.art_routes.proofs.route_key.text_of.Given as goal

-- the bytes so far, and those of the bits that are left
abbrev pub invariant-loop-i : goal.invariant-loop-i
invariant-loop-i l = record {
  long : length l.text ≡ 20;
  written : take (1 + l.i) l.text ++ strides (l.count - l.i) (l.fn.length % 7) l.number ≡ key_text (record { address = l.fn.address; length = l.fn.length });
}
