use Rattle.std.proofs.Common.{sym}
use Rattle.art_routes.proofs.AggregateLemmas.{half-absent, half-differs, half-equal}
use Rattle.art_routes.proofs.aggregate.RouteTable+V.half_has.Goals as goal

pub returns-in_default-get : goal.returns-in_default-get
returns-in_default-get g c =
    half-absent g.V.PartialEq.eq c.args.self.now c.routes_ascend.ensures.order c.routes_ascend.ensures.networks c.args.network.now c.left_half.ensures.network c.args.value.now
    c.in-Some.half.0 c.in-Some.half.1 c.in-Some.ensures.half (sym c.in_default-get.ensures)

pub returns-then-are_equal : goal.returns-then-are_equal
returns-then-are_equal g c =
    half-equal g.V.PartialEq.eq c.args.self.now c.routes_ascend.ensures.order c.routes_ascend.ensures.networks c.args.network.now c.left_half.ensures.network c.args.value.now
    c.in-Some.half.0 c.in-Some.half.1 c.in-Some-get.other.now c.in-Some.ensures.half (sym c.in-Some-get.ensures) (sym c.if-are_equal.ensures)

pub returns-else-are_equal : goal.returns-else-are_equal
returns-else-are_equal g c =
    half-differs g.V.PartialEq.eq c.args.self.now c.routes_ascend.ensures.order c.routes_ascend.ensures.networks c.args.network.now c.left_half.ensures.network c.args.value.now
    c.in-Some.half.0 c.in-Some.half.1 c.in-Some-get.other.now c.in-Some.ensures.half (sym c.in-Some-get.ensures) (sym c.if-are_equal.ensures)
