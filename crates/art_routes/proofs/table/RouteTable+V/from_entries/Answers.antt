use Rattle.std.proofs.Common.{arith, subst, sym}
use Rattle.std.specs.Vec.Iter.{into_iter_items}
use Rattle.std.proofs.lemmas.List.{nil_from_length}
use Rattle.art_routes.specs.Tables.{IsFirstToNetwork}
use Rattle.art_routes.proofs.PutLemmas.{all_put, next_is_first, none_put, one_put}
use Rattle.art_routes.proofs.table.RouteTable+V.from_entries.Goals as goal

pub each-init : goal.each-init
each-init g c = none_put c.args.entries.items (into_iter_items c.into_iter-rest.result) c.new-table.result c.into_iter-rest.ensures.rest c.new-table.ensures

pub each-preserved-in-Ok : goal.each-preserved-in-Ok
each-preserved-in-Ok g c = one_put c.args.entries.items (into_iter_items c.each.rest) c.each.table c.each.invariant c.in-Some.route (into_iter_items c.next.new.self) c.insert.new.self c.in-Some.ensures.items c.in-Ok.ensures.routes

pub each-preserved-in-Ok-2 : goal.each-preserved-in-Ok-2
each-preserved-in-Ok-2 g c = one_put c.args.entries.items (into_iter_items c.each.rest) c.each.table c.each.invariant c.in-Some.route (into_iter_items c.next.new.self) c.insert.new.self c.in-Some.ensures.items c.in-Ok.ensures.routes

pub returns-in-Err-clause-route_back : goal.returns-in-Err-clause-route_back
returns-in-Err-clause-route_back g c =
    subst (IsFirstToNetwork c.args.entries.items) (λ i. (sym c.in-Err.ensures.route_back.0 i, sym c.in-Err.ensures.route_back.1 i))
    (next_is_first c.args.entries.items (into_iter_items c.each.rest) c.each.table c.each.invariant c.in-Some.route (into_iter_items c.next.new.self) c.in-Some.ensures.items c.in-Err.ensures.no_route)

pub returns-clause-routes : goal.returns-clause-routes
returns-clause-routes g c =
    all_put c.args.entries.items (into_iter_items c.each.rest) c.each.table c.each.invariant
    (nil_from_length (into_iter_items c.each.rest) (omega (arith, c.in_default.ensures.cases.0, c.each.rest.rest.ok.0)))
