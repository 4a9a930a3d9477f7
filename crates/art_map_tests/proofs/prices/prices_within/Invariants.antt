use Rattle.std.proofs.Common.{◌≡◌, ◌++◌, map}
use Rattle.art_map_tests.proofs.prices.prices_within.Given as goal

-- the prices so far and those that are left are all of them
abbrev pub invariant-loop-price : goal.invariant-loop-price
invariant-loop-price l = l.found.items ++ map (λ entry. entry.1) l.price-iterator ≡ map (λ entry. entry.1) l.initial.price-iterator
