use Rattle.std.proofs.Common.{◌≡◌, ◌+◌, length}
use Rattle.art_routes.specs.Differences.{differences}
use Rattle.art_routes.proofs.difference.DifferencesIterator.next.Given as goal

-- what is left is all that was there
abbrev pub invariant-walk : goal.invariant-walk
invariant-walk g l = differences g.V.PartialEq.eq l.self-inside.old l.self-inside.new ≡ differences g.V.PartialEq.eq l.initial.self-inside.old l.initial.self-inside.new

abbrev pub decreases-walk : goal.decreases-walk
decreases-walk g l = length l.self-inside.old + length l.self-inside.new
