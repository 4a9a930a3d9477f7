use Rattle.std.proofs.Common.{ap, ◌∙◌, from_bits}
use Rattle.std.specs.Bool.{passes}
use lib.Ieee.{binary32}
use lib.Ieee.Bits.{of_bits-to_bits}
use Rattle.art_keys.proofs.floats.TotalF32.new.Goals as goal

pub returns : goal.returns
returns c =
    ap (from_bits binary32) (c.rank_of_32-rank.ensures ∙ c.f32_to_bits_with_nan-bits.ensures)
    ∙ of_bits-to_bits binary32 c.args.value (passes _ c.well_formed.0.1)
