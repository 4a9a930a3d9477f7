use Rattle.std.proofs.Common.{◌∙◌, subst, sym}
use Rattle.art_routes.specs.Tables.{IsShortest, NoneContains, route_now}
use Rattle.art_routes.proofs.FreeLemmas.{covered-over, none-over, shortest-over}
use Rattle.art_routes.proofs.free.overlapping.Goals as goal

pub returns-in-Some : goal.returns-in-Some
returns-in-Some g c =
    let routes = c.args.table.now in
    shortest-over routes c.routes_ascend.ensures.networks c.args.part.now c.parts-is.ensures.network (route_now c.in-Some.route)
    (subst (λ address. IsShortest routes address (route_now c.in-Some.route)) c.address.ensures c.in-Some.ensures)

pub returns-in-Some-next : goal.returns-in-Some-next
returns-in-Some-next g c =
    covered-over c.args.table.now c.routes_ascend.ensures.networks c.args.part.now c.parts-is.ensures.network (route_now c.in-Some-next.route) c.next.new.self
    (sym c.in-Some-next.ensures.steps ∙ c.covered.ensures)

pub returns-in-None-next : goal.returns-in-None-next
returns-in-None-next g c =
    none-over c.args.table.now c.routes_ascend.ensures.networks c.args.part.now c.parts-is.ensures.network
    (subst (λ address. NoneContains c.args.table.now address) c.address.ensures c.in-None.ensures) (sym c.covered.ensures ∙ c.in-None-next.ensures.steps.0)
