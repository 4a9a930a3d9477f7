use Rattle.std.proofs.Common.{◌∙◌}
use Rattle.art_routes.proofs.KeyBytes.{block-is, key-of}
use Rattle.art_routes.proofs.route_key.key_of.Goals as goal

pub invariant_of-result : goal.invariant_of-result
invariant_of-result c =
    key-of c.text_of.result c.to_be_bytes.result (record { address = c.network.inside.address; length = c.network.inside.count }) c.network.invariant c.text_of.ensures.text c.to_be_bytes.ensures

pub returns-clause-key : goal.returns-clause-key
returns-clause-key c =
    block-is c.text_of.result c.to_be_bytes.result (record { address = c.network.inside.address; length = c.network.inside.count }) c.network.invariant c.text_of.ensures.text c.to_be_bytes.ensures ∙ c.network.view_is
