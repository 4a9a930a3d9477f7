use Rattle.art_routes.specs.declared.address.Address.{Address}
use Rattle.art_routes.specs.AggregateSteps.{FewerOr, NeededUpTo}
use Rattle.art_routes.specs.Aggregates.{MatchAlike}
use Rattle.art_routes.proofs.AggregateLemmas.{IsPlace, places_left}
use Rattle.art_routes.proofs.aggregate.RouteTable+V.pass.Given as goal

-- the matches are as before, and there are fewer routes, or each is needed that does not stand behind
abbrev pub invariant-each : goal.invariant-each
invariant-each g l =
    ((address : Address) → MatchAlike g.V.PartialEq.eq l.initial.self l.self address)
    × FewerOr l.initial.self l.self (λ routes. NeededUpTo g.V.PartialEq.eq routes l.after) × IsPlace l.after

abbrev pub decreases-each : goal.decreases-each
decreases-each g l = places_left l.after
