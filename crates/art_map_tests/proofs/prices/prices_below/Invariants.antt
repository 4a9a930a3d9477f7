use Rattle.std.proofs.Common.{◌≡◌, ◌++◌}
use Rattle.art_map_tests.proofs.prices.prices_below.Given as goal

-- the prices so far and those that are left are all of them
abbrev pub invariant-loop-price : goal.invariant-loop-price
invariant-loop-price l = l.found.items ++ l.price-iterator ≡ l.initial.price-iterator
