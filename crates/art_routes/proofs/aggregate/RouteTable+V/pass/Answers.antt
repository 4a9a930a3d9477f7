use Rattle.std.proofs.Common.{inr, refl, rules}
use Rattle.std.proofs.lemmas.List.Elements.{All-contains}
use Rattle.art_routes.specs.Networks.{IsNetwork}
use Rattle.art_routes.proofs.AggregateLemmas.{alike-itself, alike-trans, nearer, needed-on, next-listed, pass-ends, pass-on}
use Rattle.art_routes.proofs.aggregate.RouteTable+V.pass.Goals as goal

pub each-init : goal.each-init
each-init g c = (λ address. alike-itself g.V.PartialEq.eq c.args.self.now address, inr (refl, λ route listed. inr listed), tt)

pub step-requires : goal.step-requires
step-requires g c =
    let (rest, next) = c.in-Some.ensures in
    (search rules, (search rules, (search rules, (search rules, (search rules, next-listed g.V.PartialEq.eq c.each.self c.routes_ascend.ensures.order c.each.after c.in-Some.route rest next)))))

pub returns-in_err-step-clause-same_matches : goal.returns-in_err-step-clause-same_matches
returns-in_err-step-clause-same_matches g c = λ address.
    alike-trans g.V.PartialEq.eq g.met.V.PartialEq.laws.trans c.args.self.now c.each.self c.step.new.self c.routes_ascend.ensures.order c.routes_ascend.ensures.networks address
    (c.each.invariant.0 address) (c.step.ensures.same_matches address)

pub each-smaller : goal.each-smaller
each-smaller g c =
    let (rest, next) = c.in-Some.ensures in
    nearer g.V.PartialEq.eq c.each.self c.routes_ascend.ensures.order c.each.after c.in-Some.route rest next c.routes_ascend.ensures.networks c.each.invariant.2

pub each-preserved : goal.each-preserved
each-preserved g c =
    let (rest, next) = c.in-Some.ensures in
    let listed = next-listed g.V.PartialEq.eq c.each.self c.routes_ascend.ensures.order c.each.after c.in-Some.route rest next in (
      λ address. alike-trans g.V.PartialEq.eq g.met.V.PartialEq.laws.trans c.args.self.now c.each.self c.step.new.self c.routes_ascend.ensures.order c.routes_ascend.ensures.networks address
          (c.each.invariant.0 address) (c.step.ensures.same_matches address),
      pass-on g.V.PartialEq.eq c.args.self.now c.each.self c.step.new.self c.each.after c.in-Some.route c.each.invariant.1
          (needed-on g.V.PartialEq.eq c.each.self c.routes_ascend.ensures.order c.each.after c.in-Some.route rest next) c.in_ok-step.ensures.fewer,
      All-contains (λ r. IsNetwork r.0) c.each.self c.in-Some.route c.routes_ascend.ensures.networks listed,
    )

pub returns-clause-fewer : goal.returns-clause-fewer
returns-clause-fewer g c = pass-ends g.V.PartialEq.eq c.args.self.now c.each.self c.each.after c.each.invariant.1 c.in_default.ensures
