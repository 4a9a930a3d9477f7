use Rattle.std.proofs.Common.{◌∙◌, refl, sym}
use Rattle.art_routes.specs.Tables.{route_now}
use Rattle.art_routes.proofs.retaining.RouteTable+V.first_covered.Goals as goal

pub returns-in-Some-clause-first : goal.returns-in-Some-clause-first
returns-in-Some-clause-first g c = (route_now c.in-Some.route, c.next.new.self, sym c.covered.ensures ∙ c.in-Some.ensures.steps, refl)
