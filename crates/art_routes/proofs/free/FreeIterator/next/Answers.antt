use Rattle.std.proofs.Common.{◌∙◌, ◌<◌, ap, arith, length, subst, sym}
use Rattle.art_routes.specs.FreeWalks.{IsBefore, IsBehind, IsFreeWalk, free_left, parts_up_to}
use Rattle.art_routes.specs.Keys.{last_network}
use Rattle.art_routes.proofs.FreeLemmas.{fewer-parts, first-left, first-walks, same-left, still-walks}
use Rattle.art_routes.proofs.free.FreeIterator.next.Goals as goal

pub walk-smaller : goal.walk-smaller
walk-smaller g c =
    let last = c.walk.self-inside.last in
    let next = c.network_behind-self-inside.result in
    let network = c.in-Some-overlapping.network in
    let before : IsBefore last c.in-Some.part = subst (λ n. IsFreeWalk last n) c.in-Some.is c.walk.invariant.1 in
    let end = c.parts.ensures.address ∙ ap (λ n. n.address) c.last_of.ensures.last in
    let behind : IsBehind (last_network network).address c.in-Some.part.length last next =
    subst (λ l. IsBehind (last_network network).address l last next) c.parts-length.ensures.length (subst (λ a. IsBehind a c.parts-length.result.1 last next) end c.network_behind-self-inside.ensures) in
    let fewer = fewer-parts c.walk.self-inside.table.now last c.in-Some.part before next network c.in-Some-overlapping.ensures behind in
    subst (λ n. length (parts_up_to last next) < length (parts_up_to last n)) (sym c.in-Some.is) fewer

pub walk-preserved : goal.walk-preserved
walk-preserved g c =
    let last = c.walk.self-inside.last in
    let routes = c.walk.self-inside.table.now in
    let next = c.network_behind-self-inside.result in
    let network = c.in-Some-overlapping.network in
    let before : IsBefore last c.in-Some.part = subst (λ n. IsFreeWalk last n) c.in-Some.is c.walk.invariant.1 in
    let end = c.parts.ensures.address ∙ ap (λ n. n.address) c.last_of.ensures.last in
    let behind : IsBehind (last_network network).address c.in-Some.part.length last next =
    subst (λ l. IsBehind (last_network network).address l last next) c.parts-length.ensures.length (subst (λ a. IsBehind a c.parts-length.result.1 last next) end c.network_behind-self-inside.ensures) in (
      same-left routes last c.in-Some.part before next network c.in-Some-overlapping.ensures behind ∙ ap (λ n. free_left routes last n) (sym c.in-Some.is) ∙ c.walk.invariant.0,
      still-walks routes last c.in-Some.part before next network c.in-Some-overlapping.ensures behind,
    )

pub invariant_of-self : goal.invariant_of-self
invariant_of-self g c =
    let last = c.walk.self-inside.last in
    let next = c.network_behind-self-inside-in-None.result in
    let before : IsBefore last c.in-Some.part = subst (λ n. IsFreeWalk last n) c.in-Some.is c.walk.invariant.1 in
    first-walks c.walk.self-inside.table.now last c.in-Some.part before next
    (subst (λ l. IsBehind c.in-Some.part.address l last next) c.parts-length.ensures.length (subst (λ a. IsBehind a c.parts-length.result.1 last next) c.parts-length.ensures.address c.network_behind-self-inside-in-None.ensures))

pub returns-in-None-clause-steps : goal.returns-in-None-clause-steps
returns-in-None-clause-steps g c =
    let last = c.walk.self-inside.last in
    let routes = c.walk.self-inside.table.now in
    let next = c.network_behind-self-inside-in-None.result in
    let before : IsBefore last c.in-Some.part = subst (λ n. IsFreeWalk last n) c.in-Some.is c.walk.invariant.1 in
    let behind = subst (λ l. IsBehind c.in-Some.part.address l last next) c.parts-length.ensures.length (subst (λ a. IsBehind a c.parts-length.result.1 last next) c.parts-length.ensures.address c.network_behind-self-inside-in-None.ensures) in
    sym c.self.view_is ∙ sym c.walk.invariant.0 ∙ ap (λ n. free_left routes last n) c.in-Some.is
    ∙ first-left routes last c.in-Some.part before next c.in-None.ensures behind

pub returns-in-None-clause-goes : goal.returns-in-None-clause-goes
returns-in-None-clause-goes g c =
    let is = returns-in-None-clause-steps g c in
    record { on = λ finite. (tt, tt, omega (arith, ap (λ rest. length rest) is)); keeps = tt; rests = λ finite. tt }
