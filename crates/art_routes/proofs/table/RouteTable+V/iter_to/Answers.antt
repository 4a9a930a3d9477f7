use Rattle.std.proofs.Common.{◌∙◌, ap}
use Rattle.art_routes.specs.Keys.{key_text}
use Rattle.art_routes.proofs.SideLemmas.{up-to-at}
use Rattle.art_routes.proofs.table.RouteTable+V.iter_to.Goals as goal

pub returns : goal.returns
returns g c =
    c.between.ensures.routes
    ∙ up-to-at c.args.self.now c.between.ensures.networks c.args.network.now c.key_of-last.ensures.network c.as_bytes.result.now (c.as_bytes.ensures.text ∙ ap key_text c.key_of-last.ensures.key)
