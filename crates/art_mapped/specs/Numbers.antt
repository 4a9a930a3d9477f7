-- The bytes of integers.
use Rattle.std.specs.Prelude.{ℕ, ◌-◌, ◌*◌, ◌^◌, ◌<◌, ℤ, pos, ◌+ℤ◌, ◌≤ℤ◌, ◌<ℤ◌, neg_ℤ, unsigned_abs, List}
use Rattle.std.specs.Int.{bytes_high_first}

-- the base-256 digits of a number at a width, most significant first
abbrev pub digits : ℕ → ℕ → List ℕ
digits width n = bytes_high_first width n

-- the numbers of an unsigned type of that many bytes
abbrev pub IsUnsigned : ℕ → ℕ → Type 0
IsUnsigned width n = n < 2 ^ (8 * width)

-- the numbers of a signed type of that many bytes
abbrev pub IsSigned : ℕ → ℤ → Type 0
IsSigned width z = (neg_ℤ (pos (2 ^ (8 * width - 1))) ≤ℤ z) × (z <ℤ pos (2 ^ (8 * width - 1)))

-- the bytes of a signed number: the digits of the number plus half of the range
abbrev pub signed_text : ℕ → ℤ → List ℕ
signed_text width z = digits width (unsigned_abs (z +ℤ pos (2 ^ (8 * width - 1))))
