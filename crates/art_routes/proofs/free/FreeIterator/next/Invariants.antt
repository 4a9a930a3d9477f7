use Rattle.std.proofs.Common.{◌≡◌, length}
use Rattle.art_routes.specs.FreeWalks.{IsFreeWalk, free_left, parts_up_to}
use Rattle.art_routes.proofs.free.FreeIterator.next.Given as goal

-- what is left is all that was there
abbrev pub invariant-walk : goal.invariant-walk
invariant-walk g l =
    (free_left l.self-inside.table.now l.self-inside.last l.self-inside.next ≡ free_left l.initial.self-inside.table.now l.initial.self-inside.last l.initial.self-inside.next)
    × IsFreeWalk l.self-inside.last l.self-inside.next

abbrev pub decreases-walk : goal.decreases-walk
decreases-walk g l = length (parts_up_to l.self-inside.last l.self-inside.next)
