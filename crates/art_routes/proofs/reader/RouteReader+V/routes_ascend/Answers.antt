use Rattle.std.proofs.Common.{All, ap, subst}
use Rattle.art_routes.specs.Networks.{IsNetwork}
use Rattle.art_routes.specs.Tables.{AreInOrder}
use Rattle.art_routes.proofs.HeldLemmas.{networks-held, order-held}
use Rattle.art_routes.proofs.reader.RouteReader+V.routes_ascend.Goals as goal

pub returns-clause-order : goal.returns-clause-order
returns-clause-order g c =
    let arena = c.self.inside.nodes.arena in
    subst (λ rs. AreInOrder rs) (ap (λ r. r.routes) c.self.view_is) (order-held arena (networks-held arena c.self.invariant.1))

pub returns-clause-networks : goal.returns-clause-networks
returns-clause-networks g c = subst (λ rs. All (λ route. IsNetwork route.0) rs) (ap (λ r. r.routes) c.self.view_is) (networks-held c.self.inside.nodes.arena c.self.invariant.1)
