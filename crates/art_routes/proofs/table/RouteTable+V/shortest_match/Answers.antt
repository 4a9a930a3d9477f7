use Rattle.std.proofs.Common.{subst}
use Rattle.std.specs.Option.{MatchOption}
use Rattle.art_routes.specs.Networks.{address_of}
use Rattle.art_routes.specs.Tables.{IsShortest, NoneContains, route_now}
use Rattle.art_routes.proofs.table.RouteTable+V.shortest_match.Goals as goal

pub returns : goal.returns
returns g c =
    subst (λ routes. MatchOption c.shortest_match.result (NoneContains routes (address_of c.args.address)) (λ route. IsShortest routes (address_of c.args.address) (route_now route)))
    c.reader-reader.ensures.routes c.shortest_match.ensures.shortest
