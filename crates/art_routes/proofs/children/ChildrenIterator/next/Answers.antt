use Rattle.std.proofs.Common.{◌∙◌, ◌∷◌, Some, ap, arith, length, refl, subst, sym}
use Rattle.art_routes.specs.Children.{IsPast, IsWalk, children_left}
use Rattle.art_routes.specs.Tables.{route_now}
use Rattle.art_routes.proofs.ChildLemmas.{no-more, one-left, walk-on}
use Rattle.art_routes.proofs.children.ChildrenIterator.next.Goals as goal

pub returns-in-Some-clause-steps : goal.returns-in-Some-clause-steps
returns-in-Some-clause-steps g c =
    let routes = c.self.inside.table.now in
    let network = c.self.inside.network in
    let walk : IsPast network c.in_ok-after.after routes = subst (λ a. IsWalk network a routes) c.in_ok-after.was c.self.invariant in
    let (rest, next) = c.in-Some.ensures.first in
    sym c.self.view_is ∙ ap (λ a. children_left network a routes) c.in_ok-after.was
    ∙ one-left network routes c.routes_ascend.ensures.order c.routes_ascend.ensures.networks c.in_ok-after.after walk (route_now c.in-Some.route) rest next c.in-Some.ensures.covered
    ∙ ap (λ last. route_now c.in-Some.route ∷ children_left network (Some last) routes) (sym c.last_of.ensures.last)

pub returns-in-Some-clause-goes : goal.returns-in-Some-clause-goes
returns-in-Some-clause-goes g c =
    let is = returns-in-Some-clause-steps g c in
    record { on = λ finite. (tt, tt, omega (arith, ap (λ rest. length rest) is)); keeps = tt; rests = λ finite. tt }

pub invariant_of-self : goal.invariant_of-self
invariant_of-self g c =
    let routes = c.self.inside.table.now in
    let network = c.self.inside.network in
    let walk : IsPast network c.in_ok-after.after routes = subst (λ a. IsWalk network a routes) c.in_ok-after.was c.self.invariant in
    let (rest, next) = c.in-Some.ensures.first in
    subst (λ last. IsPast network last routes) (sym c.last_of.ensures.last)
    (walk-on network routes c.routes_ascend.ensures.order c.routes_ascend.ensures.networks c.in_ok-after.after walk (route_now c.in-Some.route) rest next c.in-Some.ensures.covered)

pub returns-in-None-clause-steps : goal.returns-in-None-clause-steps
returns-in-None-clause-steps g c =
    let routes = c.self.inside.table.now in
    let network = c.self.inside.network in
    let walk : IsPast network c.in_ok-after.after routes = subst (λ a. IsWalk network a routes) c.in_ok-after.was c.self.invariant in (
      sym c.self.view_is ∙ ap (λ a. children_left network a routes) c.in_ok-after.was
          ∙ no-more network routes c.routes_ascend.ensures.order c.routes_ascend.ensures.networks c.in_ok-after.after walk c.in-None.ensures.none,
      refl,
    )
