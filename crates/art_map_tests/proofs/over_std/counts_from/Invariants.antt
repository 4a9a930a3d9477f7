use Rattle.std.proofs.Common.{◌≡◌, ◌++◌, map}
use Rattle.art_map_tests.proofs.over_std.counts_from.Given as goal

-- the counts so far and those that are left are all of them
abbrev pub invariant-loop-count : goal.invariant-loop-count
invariant-loop-count l = l.counts.items ++ map (λ entry. entry.1) l.count-iterator ≡ map (λ entry. entry.1) l.initial.count-iterator
