use Rattle.std.proofs.Common.{length}
use Rattle.art_routes.specs.Tables.{covered}
use Rattle.art_routes.proofs.RemovalLemmas.{AreGone}
use Rattle.art_routes.proofs.retaining.RouteTable+V.remove_each.Given as goal

-- some of the routes inside the network are gone, and all others are there
abbrev pub invariant-each : goal.invariant-each
invariant-each g l = AreGone l.network l.fn.self l.self

abbrev pub decreases-each : goal.decreases-each
decreases-each g l = length (covered l.network l.self)
