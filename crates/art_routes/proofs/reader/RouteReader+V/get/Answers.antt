use Rattle.std.proofs.Common.{◌∙◌, sym}
use Rattle.art_routes.proofs.ReadLemmas.{value-here, value-none, value-not-here}
use Rattle.art_routes.proofs.reader.RouteReader+V.get.Goals as goal

pub returns-then-length-clause-value : goal.returns-then-length-clause-value
returns-then-length-clause-value g c =
    value-here c.args.network.now c.args.self.now.routes c.routes_ascend.ensures.order c.routes_ascend.ensures.networks c.parts-length.ensures.network c.parts-length.result.0 c.parts-length.result.1 c.parts-length.ensures.address c.parts-length.ensures.length (c.in-Some.route.0, c.in-Some.route.1.now) c.in-Some.ensures.longest
    (sym c.length.ensures ∙ c.if-length.true)

pub returns-else-length-clause-value : goal.returns-else-length-clause-value
returns-else-length-clause-value g c =
    value-not-here c.args.network.now c.args.self.now.routes c.routes_ascend.ensures.order c.routes_ascend.ensures.networks c.parts-length.ensures.network c.parts-length.result.0 c.parts-length.result.1 c.parts-length.ensures.address c.parts-length.ensures.length (c.in-Some.route.0, c.in-Some.route.1.now) c.in-Some.ensures.longest
    (λ same. c.if-length.false (c.length.ensures ∙ same))

pub returns-in-None-clause-value : goal.returns-in-None-clause-value
returns-in-None-clause-value g c =
    value-none c.args.network.now c.args.self.now.routes c.routes_ascend.ensures.order c.routes_ascend.ensures.networks c.parts-length.ensures.network c.parts-length.result.0 c.parts-length.result.1 c.parts-length.ensures.address c.parts-length.ensures.length c.in-None.ensures.longest
