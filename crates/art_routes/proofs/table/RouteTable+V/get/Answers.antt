use Rattle.std.proofs.Common.{◌∙◌, ap}
use Rattle.art_routes.specs.Keys.{key_text}
use Rattle.art_routes.proofs.HeldLemmas.{value-held}
use Rattle.art_routes.proofs.table.RouteTable+V.get.Goals as goal

pub returns : goal.returns
returns g c =
    c.get.ensures
    ∙ value-held c.self.inside.tree.arena c.args.self.now c.self.view_is c.self.invariant c.args.network.now c.key_of-key.ensures.network c.as_bytes.result.now (c.as_bytes.ensures.text ∙ ap key_text c.key_of-key.ensures.key)
