use Rattle.std.proofs.Common.{◌≡◌, ℕ, ◌<◌, ◌*◌, drop, get_or, take}
use Rattle.art_c_routes.specs.Addresses.{address_in}
use Rattle.art_c_routes.specs.Found.{IsMatched}
use Rattle.art_c_routes.proofs.number_routes.NumberRoutes.longest_match_many.Given as goal

-- the first answers are written, and the rest is as it was
abbrev pub invariant-loop-index : goal.invariant-loop-index
invariant-loop-index l = record {
  matches : (i : ℕ) → i < l.index → IsMatched l.self (address_in (take l.width (drop (i * l.width) l.addresses))) (get_or l.fn.values i 0) (get_or l.lengths i 0, get_or l.values i 0);
  lengths : drop l.index l.lengths ≡ drop l.index l.fn.lengths;
  values : drop l.index l.values ≡ drop l.index l.fn.values;
}
