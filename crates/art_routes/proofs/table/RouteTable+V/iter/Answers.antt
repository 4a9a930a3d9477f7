use Rattle.std.proofs.Common.{◌∙◌}
use Rattle.art_routes.specs.Keys.{key_text}
use Rattle.art_routes.proofs.SideLemmas.{all-between, filter-all}
use Rattle.art_routes.proofs.table.RouteTable+V.iter.Goals as goal

pub returns : goal.returns
returns g c = c.between.ensures.routes ∙ filter-all _ (λ route. all-between (key_text route.0)) c.args.self.now
