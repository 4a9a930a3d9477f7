use Rattle.std.proofs.Common.{◌∙◌, List, ap, map, subst, sym}
use Rattle.art_nodes.specs.declared.pointers.OpaqueNodePtr.{OpaqueNodePtr}
use Rattle.art_routes.specs.Keys.{key_text}
use Rattle.art_routes.specs.Networks.{Block}
use Rattle.art_routes.specs.Shrinking.{NeedsNode}
use Rattle.art_routes.specs.Tables.{without_route}
use Rattle.art_routes.proofs.RemovalLemmas.{all-gone, fewer-left, loses-first, on-err-always, one-gone}
use Rattle.art_routes.proofs.retaining.RouteTable+V.remove_each.Goals as goal

pub each-preserved-in_ok-remove : goal.each-preserved-in_ok-remove
each-preserved-in_ok-remove g c =
    let (route, rest, next, is) = c.in-Some.ensures.first in
    one-gone c.args.network.now c.each.self c.routes_ascend.ensures.order route rest next c.args.self.now c.each.invariant c.remove.new.self (c.in_ok-remove.ensures.routes ∙ ap (without_route c.each.self) is)

pub each-preserved : goal.each-preserved
each-preserved g c =
    let (route, rest, next, is) = c.in-Some.ensures.first in
    one-gone c.args.network.now c.each.self c.routes_ascend.ensures.order route rest next c.args.self.now c.each.invariant c.remove.new.self (c.in_ok-remove.ensures.routes ∙ ap (without_route c.each.self) is)

pub each-smaller-in_ok-remove : goal.each-smaller-in_ok-remove
each-smaller-in_ok-remove g c =
    let (route, rest, next, is) = c.in-Some.ensures.first in
    fewer-left c.args.network.now c.each.self c.routes_ascend.ensures.order route rest next c.remove.new.self (c.in_ok-remove.ensures.routes ∙ ap (without_route c.each.self) is)

pub each-smaller : goal.each-smaller
each-smaller g c =
    let (route, rest, next, is) = c.in-Some.ensures.first in
    fewer-left c.args.network.now c.each.self c.routes_ascend.ensures.order route rest next c.remove.new.self (c.in_ok-remove.ensures.routes ∙ ap (without_route c.each.self) is)

pub returns-in_err-remove-clause-stopped : goal.returns-in_err-remove-clause-stopped
returns-in_err-remove-clause-stopped g c =
    let (route, rest, next, is) = c.in-Some.ensures.first in
    let new = c.remove.new.self in
    let same = c.in_err-remove.ensures.same_routes in
    let needs = λ (network : Block). NeedsNode (OpaqueNodePtr Block g.row.V.Denot 20) (map (λ route. key_text route.0) new) (key_text network) in
    let here = subst (λ (routes : List (Block × g.row.V.Denot)). NeedsNode (OpaqueNodePtr Block g.row.V.Denot 20) (map (λ route. key_text route.0) routes) (key_text c.in-Some.first)) (sym same) c.in_err-remove.ensures.needs_node in
    on-err-always c.from_residual.result _ (loses-first c.args.network.now c.each.self c.routes_ascend.ensures.order route rest next c.args.self.now c.each.invariant new same needs (subst needs is here))

pub returns-clause-routes : goal.returns-clause-routes
returns-clause-routes g c = all-gone c.args.network.now c.args.self.now c.each.self c.each.invariant c.in_default.ensures.none
