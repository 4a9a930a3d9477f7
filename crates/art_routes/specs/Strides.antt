-- The bytes of strides.
use Rattle.std.specs.Prelude.{ℕ, zero, suc, ◌+◌, ◌-◌, ◌*◌, ◌/◌, ◌%◌, ◌^◌, List, [], ◌∷◌}

-- the place of the first bits of seven, so many of them, the others cleared, in the preorder of the complete binary
-- tree of depth 7
abbrev pub symbol : ℕ → ℕ → ℕ
symbol bits count = count + bits + bits / 2 + bits / 4 + bits / 8 + bits / 16 + bits / 32 + bits / 64

-- seven bits with the first ones kept, so many of them, and the others cleared
abbrev pub kept : ℕ → ℕ → ℕ
kept count bits = bits / 2 ^ (7 - count) * 2 ^ (7 - count)

-- the first seven of 128 bits, and the others with as many clear ones behind them
abbrev pub stride : ℕ → ℕ
stride number = number / 2 ^ 121

abbrev pub bits_behind : ℕ → ℕ
bits_behind number = number % 2 ^ 121 * 2 ^ 7

-- the bytes of the first bits of a number: so many strides of seven, and one of fewer
abbrev pub strides : ℕ → ℕ → ℕ → List ℕ
strides zero rest number = symbol (kept rest (stride number)) rest ∷ []
strides (suc count) rest number = symbol (stride number) 7 ∷ strides count rest (bits_behind number)

-- the stride behind so many others
abbrev pub stride_at : ℕ → ℕ → ℕ
stride_at zero number = stride number
stride_at (suc place) number = stride_at place (bits_behind number)
