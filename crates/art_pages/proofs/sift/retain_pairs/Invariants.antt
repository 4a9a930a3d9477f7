use Rattle.std.proofs.Common.{◌≡◌, ◌-◌, ◌≤◌, length, vec_capacity}
use Rattle.art_pages.proofs.SiftLemmas.{IsSifted}
use Rattle.art_pages.proofs.sift.retain_pairs.Given as goal

abbrev pub invariant-pairs : goal.invariant-pairs
invariant-pairs g l =
    ((l.kept ≤ l.place) × (l.place ≤ length l.pairs.items) × (vec_capacity l.pairs ≡ vec_capacity l.initial.pairs))
    × IsSifted g.F.Keeps.step g.F.Keeps.accepts l.initial.test l.initial.pairs.items l.test l.pairs.items l.kept l.place

abbrev pub decreases-pairs : goal.decreases-pairs
decreases-pairs g l = length l.pairs.items - l.place
