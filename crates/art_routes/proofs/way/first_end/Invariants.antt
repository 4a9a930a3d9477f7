use Rattle.std.proofs.Common.{◌≡◌, ◌-◌, ◌<◌, ℕ, None}
use Rattle.art_nodes.specs.ChildMap.{child_at}
use Rattle.art_arena.specs.InnerRef.{inner_shown}
use Rattle.art_routes.specs.Keys.{last_network_byte}
use Rattle.art_routes.specs.Ways.{IsEndAt}
use Rattle.art_routes.proofs.way.first_end.Given as goal

-- each shorter route that may end here has no child
abbrev pub invariant-loop-rest : goal.invariant-loop-rest
invariant-loop-rest g l = (other : ℕ) → other < l.rest → IsEndAt l.fn.most l.fn.place other → child_at (inner_shown l.fn.node).children (last_network_byte l.fn.address (l.fn.place - 1) other) ≡ None
