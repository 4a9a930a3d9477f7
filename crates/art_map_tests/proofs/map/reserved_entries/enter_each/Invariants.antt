use Rattle.std.proofs.Common.{length}
use Rattle.std.specs.Vec.Iter.{into_iter_items}
use Rattle.art_steps.specs.Room.{HasEntryRoom}
use Rattle.art_map_tests.proofs.map.reserved_entries.enter_each.Given as goal

-- there is room for the entries that are left
abbrev pub invariant-each : goal.invariant-each
invariant-each g l = HasEntryRoom l.tree.arena (length (into_iter_items l.entries))

abbrev pub decreases-each : goal.decreases-each
decreases-each g l = length (into_iter_items l.entries)
