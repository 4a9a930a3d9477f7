use Rattle.std.proofs.Common.{◌≡◌, All, true, length}
use Rattle.art_set.specs.KeyLists.{contains_by}
use Rattle.art_set.proofs.set.Set.is_subset.Given as goal

-- the keys that were gone through meet the test
abbrev pub invariant-each : goal.invariant-each
invariant-each g l =
    (All (λ key. contains_by (g.K.Ord.cmp key) l.other ≡ true) l.keys → All (λ key. contains_by (g.K.Ord.cmp key) l.other ≡ true) l.self)
    × (All (λ key. contains_by (g.K.Ord.cmp key) l.other ≡ true) l.self → All (λ key. contains_by (g.K.Ord.cmp key) l.other ≡ true) l.keys)

abbrev pub decreases-each : goal.decreases-each
decreases-each g l = length l.keys
