-- A byte as the bytes of a value.
use Rattle.std.proofs.Common.{ℕ, zero, suc, ◌<◌, [], ◌∷◌, length, refl, arith}
use Rattle.std.specs.Prelude.{slice_index}
use Rattle.art_bytes.specs.Text.{IsByte}
use Rattle.art_mapped.specs.ValueBytes.{HasWidth}

-- a byte alone has width 1
pub one_byte : (byte : ℕ) → IsByte byte → HasWidth 1 (byte ∷ [])
one_byte byte is = (refl, only)
  where
    only : (k : ℕ) → k < length (byte ∷ []) → slice_index (byte ∷ []) k < 256
    only zero below = is
    only (suc k) below = absurd (omega arith)
