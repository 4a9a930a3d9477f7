use Rattle.std.proofs.Common.{◌≡◌, ◌++◌, map}
use Rattle.art_map_tests.proofs.over_map.numbers.Given as goal

-- the numbers so far and those that are left are all of them
abbrev pub invariant-loop-number : goal.invariant-loop-number
invariant-loop-number l = l.numbers.items ++ map (λ entry. entry.0) l.number-iterator ≡ map (λ entry. entry.0) l.initial.number-iterator
