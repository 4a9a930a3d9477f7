use Rattle.std.proofs.Common.{ap, ◌∙◌, from_bits}
use Rattle.std.specs.Bool.{passes}
use lib.Ieee.{binary64}
use lib.Ieee.Bits.{of_bits-to_bits}
use Rattle.art_keys.proofs.floats.TotalF64.new.Goals as goal

pub returns : goal.returns
returns c =
    ap (from_bits binary64) (c.rank_of_64-rank.ensures ∙ c.f64_to_bits_with_nan-bits.ensures)
    ∙ of_bits-to_bits binary64 c.args.value (passes _ c.well_formed.0.1)
