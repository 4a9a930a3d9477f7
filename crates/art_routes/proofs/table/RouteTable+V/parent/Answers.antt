use Rattle.std.proofs.Common.{subst}
use Rattle.std.specs.Option.{MatchOption}
use Rattle.art_routes.specs.Tables.{IsParent, NoneAround, route_now}
use Rattle.art_routes.proofs.table.RouteTable+V.parent.Goals as goal

pub returns : goal.returns
returns g c =
    subst (λ routes. MatchOption c.parent.result (NoneAround routes c.args.network.now) (λ route. IsParent routes c.args.network.now (route_now route)))
    c.reader-reader.ensures.routes c.parent.ensures.parent
