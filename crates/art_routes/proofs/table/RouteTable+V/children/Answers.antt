use Rattle.std.proofs.Common.{sym}
use Rattle.art_routes.proofs.ChildLemmas.{all-left, walk-begins}
use Rattle.art_routes.proofs.table.RouteTable+V.children.Goals as goal

pub invariant_of-result : goal.invariant_of-result
invariant_of-result g c = walk-begins c.args.network.now c.args.self.now c.routes_ascend.ensures.order c.routes_ascend.ensures.networks c.parts-is.ensures.network

pub returns : goal.returns
returns g c = sym (all-left c.args.network.now c.args.self.now c.routes_ascend.ensures.order c.routes_ascend.ensures.networks c.parts-is.ensures.network)
