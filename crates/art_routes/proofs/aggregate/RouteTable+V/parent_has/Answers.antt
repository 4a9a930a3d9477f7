use Rattle.art_routes.specs.Tables.{route_now}
use Rattle.art_routes.proofs.AggregateLemmas.{says-of-parent}
use Rattle.art_routes.proofs.aggregate.RouteTable+V.parent_has.Goals as goal

pub returns-in-Some : goal.returns-in-Some
returns-in-Some g c =
    says-of-parent g.V.PartialEq.eq c.args.self.now c.routes_ascend.ensures.order c.routes_ascend.ensures.networks c.args.network.now c.parts-is.ensures.network c.args.value.now (route_now c.in-Some.route) c.in-Some.ensures c.are_equal.result c.are_equal.ensures
