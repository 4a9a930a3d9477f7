use Rattle.std.proofs.Common.{◌≡◌, ◌+◌, length}
use Rattle.art_set.specs.Walks.{walk}
use Rattle.art_set.proofs.set.merging.MergedIterator.next.Given as goal

-- what is left is taken as all that was there
abbrev pub invariant-walk : goal.invariant-walk
invariant-walk g l =
    (walk g.K.KeyBytes.order l.self-inside.in_left l.self-inside.in_both l.self-inside.in_right l.self-inside.left l.self-inside.right
    ≡ walk g.K.KeyBytes.order l.initial.self-inside.in_left l.initial.self-inside.in_both l.initial.self-inside.in_right l.initial.self-inside.left l.initial.self-inside.right)
    × (l.self-inside.in_left ≡ l.initial.self-inside.in_left) × (l.self-inside.in_both ≡ l.initial.self-inside.in_both) × (l.self-inside.in_right ≡ l.initial.self-inside.in_right)

abbrev pub decreases-walk : goal.decreases-walk
decreases-walk g l = length l.self-inside.left + length l.self-inside.right
