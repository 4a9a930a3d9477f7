use Rattle.std.proofs.Common.{length}
use Rattle.art_routes.specs.declared.address.Address.{Address}
use Rattle.art_routes.specs.Aggregates.{MatchAlike}
use Rattle.art_routes.proofs.aggregate.RouteTable+V.aggregate.Given as goal

-- the matches are as before
abbrev pub invariant-passes : goal.invariant-passes
invariant-passes g l = (address : Address) → MatchAlike g.V.PartialEq.eq l.initial.self l.self address

abbrev pub decreases-passes : goal.decreases-passes
decreases-passes g l = length l.self
