use Rattle.std.proofs.Common.{subst}
use Rattle.std.specs.Option.{MatchOption}
use Rattle.art_routes.specs.Tables.{IsLongestOver, NoneCovers, route_now}
use Rattle.art_routes.proofs.table.RouteTable+V.longest_over.Goals as goal

pub returns : goal.returns
returns g c =
    subst (λ routes. MatchOption c.longest_over.result (NoneCovers routes (record { address = c.args.address; length = c.args.length })) (λ route. IsLongestOver routes (record { address = c.args.address; length = c.args.length }) (route_now route)))
    c.reader-reader.ensures.routes c.longest_over.ensures.longest
