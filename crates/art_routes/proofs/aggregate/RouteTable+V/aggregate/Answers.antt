use Rattle.art_routes.proofs.AggregateLemmas.{alike-itself, alike-trans}
use Rattle.art_routes.proofs.aggregate.RouteTable+V.aggregate.Goals as goal

pub passes-init : goal.passes-init
passes-init g c = λ address. alike-itself g.V.PartialEq.eq c.args.self.now address

pub returns-in_err-pass-clause-same_matches : goal.returns-in_err-pass-clause-same_matches
returns-in_err-pass-clause-same_matches g c = λ address.
    alike-trans g.V.PartialEq.eq g.met.V.PartialEq.laws.trans c.args.self.now c.passes.self c.pass.new.self c.routes_ascend.ensures.order c.routes_ascend.ensures.networks address
    (c.passes.invariant address) (c.pass.ensures.same_matches address)

pub returns-then-len-before-clause-same_matches : goal.returns-then-len-before-clause-same_matches
returns-then-len-before-clause-same_matches g c = λ address.
    alike-trans g.V.PartialEq.eq g.met.V.PartialEq.laws.trans c.args.self.now c.passes.self c.pass.new.self c.routes_ascend.ensures.order c.routes_ascend.ensures.networks address
    (c.passes.invariant address) (c.pass.ensures.same_matches address)

pub passes-preserved : goal.passes-preserved
passes-preserved g c = λ address.
    alike-trans g.V.PartialEq.eq g.met.V.PartialEq.laws.trans c.args.self.now c.passes.self c.pass.new.self c.routes_ascend.ensures.order c.routes_ascend.ensures.networks address
    (c.passes.invariant address) (c.pass.ensures.same_matches address)
