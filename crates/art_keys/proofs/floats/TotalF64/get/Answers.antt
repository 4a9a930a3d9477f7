use Rattle.std.proofs.Common.{ap, ◌∙◌, from_bits}
use lib.Ieee.{binary64}
use Rattle.art_keys.proofs.floats.TotalF64.get.Goals as goal

pub returns : goal.returns
returns c = c.f64_from_bits_with_nan.ensures ∙ ap (from_bits binary64) c.bits_of_64-bits.ensures
