use Rattle.std.proofs.Common.{◌≡◌, ◌<◌, ℕ}
use Rattle.art_arena.specs.InnerRef.{inner_shown}
use Rattle.art_routes.specs.Ends.{HasChild, shorter}
use Rattle.art_routes.proofs.way.last_looked_up.Given as goal

-- the end is one of them, and none of those before it has a child
abbrev pub invariant-down : goal.invariant-down
invariant-down g l = record {
  fewer : ℕ;
  is : shorter fewer l.longest ≡ l.end;
  fits : l.end < 256;
  first : (other : ℕ) → other < fewer → HasChild (inner_shown l.node).children (shorter other l.longest) → ⊥;
}

abbrev pub decreases-down : goal.decreases-down
decreases-down g l = l.end
