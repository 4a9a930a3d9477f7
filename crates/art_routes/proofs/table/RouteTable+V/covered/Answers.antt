use Rattle.std.proofs.Common.{◌∙◌, ap}
use Rattle.art_routes.specs.Keys.{key_text}
use Rattle.art_routes.proofs.SideLemmas.{covered-at}
use Rattle.art_routes.proofs.table.RouteTable+V.covered.Goals as goal

pub returns : goal.returns
returns g c =
    c.between.ensures.routes
    ∙ covered-at c.args.self.now c.between.ensures.networks c.args.network.now c.key_of-first.ensures.network c.as_bytes.result.now (c.as_bytes.ensures.text ∙ ap key_text c.key_of-first.ensures.key) c.last_of.result c.last_of.ensures.network c.last_of.ensures.last c.as_bytes-2.result.now
    (c.as_bytes-2.ensures.text ∙ ap key_text c.key_of-last.ensures.key)
