use Rattle.std.proofs.Common.{ap, ◌∙◌, from_bits}
use lib.Ieee.{binary32}
use Rattle.art_keys.proofs.floats.TotalF32.get.Goals as goal

pub returns : goal.returns
returns c = c.f32_from_bits_with_nan.ensures ∙ ap (from_bits binary32) c.bits_of_32-bits.ensures
