use Rattle.std.proofs.Common.{subst}
use Rattle.std.specs.Option.{MatchOption}
use Rattle.art_routes.specs.Networks.{address_of}
use Rattle.art_routes.specs.Tables.{IsLongest, NoneContains, route_now}
use Rattle.art_routes.proofs.table.RouteTable+V.longest_match.Goals as goal

pub returns : goal.returns
returns g c =
    subst (λ routes. MatchOption c.longest_match.result (NoneContains routes (address_of c.args.address)) (λ route. IsLongest routes (address_of c.args.address) (route_now route)))
    c.reader-reader.ensures.routes c.longest_match.ensures.longest
