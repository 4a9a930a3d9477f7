use Rattle.std.proofs.Common.{◌≡◌, ◌+◌, ◌<◌, ◌≤◌, ℕ, get_or, length}
use Rattle.art_routes.specs.Ends.{HasByte, shorter}
use Rattle.art_routes.proofs.ends.next_end.Given as goal

-- the end is one of them, none of those before it is a byte, and the bytes behind this place are above it
abbrev pub invariant-down : goal.invariant-down
invariant-down l = record {
  fewer : ℕ;
  is : shorter fewer l.longest ≡ l.end;
  fits : l.end < 256;
  first : (other : ℕ) → other < fewer → HasByte l.bytes (shorter other l.longest) → ⊥;
  within : l.count ≤ length l.bytes;
  above : (place : ℕ) → l.count ≤ place → place < length l.bytes → l.end < get_or l.bytes place 0;
}

abbrev pub decreases-down : goal.decreases-down
decreases-down l = l.count + l.end
