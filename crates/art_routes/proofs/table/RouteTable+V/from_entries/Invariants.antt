use Rattle.std.specs.Vec.Iter.{into_iter_items, into_iter_len}
use Rattle.art_routes.proofs.PutLemmas.{ArePut}
use Rattle.art_routes.proofs.table.RouteTable+V.from_entries.Given as goal

-- the routes so far are put, and the others are left
abbrev pub invariant-each : goal.invariant-each
invariant-each g l = ArePut l.fn.entries.items (into_iter_items l.rest) l.table

abbrev pub decreases-each : goal.decreases-each
decreases-each g l = into_iter_len l.rest
