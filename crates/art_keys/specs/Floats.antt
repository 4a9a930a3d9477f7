-- Floats by their bits, changed so that they have the order of the floats: those with a sign have the lower half.
use Rattle.std.specs.Prelude.{ℕ, ◌-◌, ◌*◌, cond, from_bits}
use lib.Dec.{ltb}
use lib.Ieee.{Float, Format, binary32, binary64, top}
use Rattle.art_keys.specs.declared.floats.TotalF64.{TotalF64}
use Rattle.art_keys.specs.declared.floats.TotalF32.{TotalF32}

-- the bits of the float at a place of the order
abbrev pub bits_at : Format → ℕ → ℕ
bits_at format rank = cond (ltb rank (top format)) (2 * top format - 1 - rank) (rank - top format)

-- the float of a key; every pattern of a NaN is the one NaN
abbrev pub total_f64 : TotalF64 → Float
total_f64 key = from_bits binary64 (bits_at binary64 key.rank)

abbrev pub total_f32 : TotalF32 → Float
total_f32 key = from_bits binary32 (bits_at binary32 key.rank)
