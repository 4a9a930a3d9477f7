use Rattle.std.proofs.Common.{◌∙◌, ap}
use Rattle.art_routes.specs.Keys.{last_network_byte, left}
use Rattle.art_routes.specs.Strides.{kept, symbol}
use Rattle.art_routes.proofs.KeyBytes.{end-at}
use Rattle.art_routes.proofs.route_key.end_byte.Goals as goal

pub returns : goal.returns
unfolding last_network_byte
returns c =
    let stride = end-at c.left.result (left c.args.address) c.args.place c.left.ensures.is c.left.ensures.fits in
    c.symbol.ensures ∙ ap (λ bits. symbol bits c.args.rest) (c.first_of.ensures.is ∙ ap (kept c.args.rest) stride)
