use Rattle.std.proofs.Common.{◌==◌, subst}
use Rattle.art_routes.specs.Aggregates.{MatchAlike}
use Rattle.art_c.specs.Handles.{held_entries}
use Rattle.art_c.proofs.routes.art_routes_aggregate.Goals as goal

pub returns-in-Ok-clause-same_matches : goal.returns-in-Ok-clause-same_matches
returns-in-Ok-clause-same_matches c = λ mapped address.
    subst (λ held. MatchAlike ◌==◌ (held_entries held) c.aggregate-aggregated.new.self address) c.in-Some.ensures.table (c.aggregate-aggregated.ensures.same_matches address)

pub returns-in-Err-clause-same_matches : goal.returns-in-Err-clause-same_matches
returns-in-Err-clause-same_matches c = λ mapped address.
    subst (λ held. MatchAlike ◌==◌ (held_entries held) c.aggregate-aggregated.new.self address) c.in-Some.ensures.table (c.aggregate-aggregated.ensures.same_matches address)
