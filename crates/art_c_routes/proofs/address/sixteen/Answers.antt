use Rattle.std.proofs.Common.{◌∙◌, ap, arith}
use Rattle.std.specs.Int.{w128, from_be_bytes}
use Rattle.art_c_routes.proofs.AddressLemmas.{in_sixteen}
use Rattle.art_c_routes.proofs.address.sixteen.Goals as goal

pub returns : goal.returns
returns c =
    in_sixteen c.from_bits.result c.args.bytes.now c.from_be_bytes-bits.result c.requires (c.from_be_bytes-bits.ensures ∙ ap (from_be_bytes w128) c.copy_from_slice.ensures.after)
    (omega (arith, c.from_be_bytes-bits.type_inv)) c.from_bits.ensures
