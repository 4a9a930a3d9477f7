use Rattle.std.proofs.Common.{All, subst}
use Rattle.art_routes.specs.Networks.{IsNetwork}
use Rattle.art_routes.specs.Tables.{AreInOrder}
use Rattle.art_routes.proofs.HeldLemmas.{order-held}
use Rattle.art_routes.proofs.table.RouteTable+V.routes_ascend.Goals as goal

pub returns-clause-order : goal.returns-clause-order
returns-clause-order g c = subst (λ rs. AreInOrder rs) c.self.view_is (order-held c.self.inside.tree.arena c.self.invariant)

pub returns-clause-networks : goal.returns-clause-networks
returns-clause-networks g c = subst (λ rs. All (λ route. IsNetwork route.0) rs) c.self.view_is c.self.invariant
