use Rattle.std.proofs.Common.{◌==◌, subst}
use Rattle.art_routes.specs.declared.address.Address.{Address}
use Rattle.art_routes.specs.Aggregates.{MatchAlike}
use Rattle.art_c_routes.proofs.number_routes.NumberRoutes.aggregate.Goals as goal

pub returns-clause-same_matches : goal.returns-clause-same_matches
returns-clause-same_matches c =
    subst (λ routes. (address : Address) → MatchAlike ◌==◌ routes c.aggregate.new.self address) c.self.view_is c.aggregate.ensures.same_matches
