use Rattle.std.proofs.Common.{◌∙◌, ap, arith}
use Rattle.std.specs.Int.{w32, from_be_bytes}
use Rattle.art_c_routes.proofs.AddressLemmas.{in_four}
use Rattle.art_c_routes.proofs.address.four.Goals as goal

pub returns : goal.returns
returns c =
    in_four c.from_bits.result c.args.bytes.now c.from_be_bytes-bits.result c.requires (c.from_be_bytes-bits.ensures ∙ ap (from_be_bytes w32) c.copy_from_slice.ensures.after)
    (omega (arith, c.from_be_bytes-bits.type_inv)) c.from_bits.ensures
