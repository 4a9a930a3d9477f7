use Rattle.std.proofs.Common.{◌∙◌, ap}
use Rattle.art_routes.specs.Keys.{key_text}
use Rattle.art_routes.proofs.SideLemmas.{from-at}
use Rattle.art_routes.proofs.table.RouteTable+V.iter_from.Goals as goal

pub returns : goal.returns
returns g c =
    c.between.ensures.routes
    ∙ from-at c.args.self.now c.between.ensures.networks c.args.network.now c.key_of-first.ensures.network c.as_bytes.result.now (c.as_bytes.ensures.text ∙ ap key_text c.key_of-first.ensures.key)
