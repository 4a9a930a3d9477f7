use Rattle.std.proofs.Common.{subst}
use Rattle.std.specs.Option.{MatchOption}
use Rattle.art_routes.specs.Tables.{IsLongestOver, NoneCovers, route_now}
use Rattle.art_routes.proofs.table.RouteTable+V.longest_match_of.Goals as goal

pub returns : goal.returns
returns g c =
    subst (λ routes. MatchOption c.longest_match_of.result (NoneCovers routes c.args.network.now) (λ route. IsLongestOver routes c.args.network.now (route_now route)))
    c.reader-reader.ensures.routes c.longest_match_of.ensures.longest
