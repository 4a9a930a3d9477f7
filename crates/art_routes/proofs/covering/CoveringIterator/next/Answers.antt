use Rattle.std.proofs.Common.{◌∙◌, ◌-◌, ◌≤◌, ap, arith, length, refl, subst, sym}
use Rattle.std.specs.Option.{SomeIff}
use Rattle.art_routes.specs.Keys.{covering_left}
use Rattle.art_routes.specs.Tables.{route_now}
use Rattle.art_routes.proofs.CoveringLemmas.{around_left, none_around}
use Rattle.art_routes.proofs.covering.CoveringIterator.next.Goals as goal

pub returns-in-Some-clause-steps : goal.returns-in-Some-clause-steps
returns-in-Some-clause-steps g c =
    let routes = c.self.inside.table.now in
    let left = subst (λ n. SomeIff c.checked_sub-self-inside.result (1 ≤ n) (n - 1)) c.length.ensures c.checked_sub-self-inside.ensures in
    sym c.self.view_is ∙ ap (λ most. covering_left c.self.inside.address most routes) c.in_ok-most.was
    ∙ around_left routes c.routes_ascend.ensures.order c.routes_ascend.ensures.networks c.self.inside.address c.in_ok-most.most (route_now c.in-Some.route) c.in-Some.ensures c.checked_sub-self-inside.result left

pub returns-in-Some-clause-goes : goal.returns-in-Some-clause-goes
returns-in-Some-clause-goes g c =
    let is = returns-in-Some-clause-steps g c in
    record { on = λ finite. (tt, tt, omega (arith, ap (λ rest. length rest) is)); keeps = tt; rests = λ finite. tt }

pub returns-in-None-clause-steps : goal.returns-in-None-clause-steps
returns-in-None-clause-steps g c =
    let routes = c.self.inside.table.now in (
      sym c.self.view_is ∙ ap (λ most. covering_left c.self.inside.address most routes) c.in_ok-most.was
          ∙ none_around routes (record { address = c.self.inside.address; length = c.in_ok-most.most }) c.in-None.ensures,
      refl,
    )
