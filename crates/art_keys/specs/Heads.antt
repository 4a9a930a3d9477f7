-- A few bytes of an encoding as one number.
use Rattle.std.specs.Prelude.{ℕ, zero, suc, ◌+◌, ◌*◌, ◌^◌, List, [], ◌∷◌, drop}

-- the first `count` bytes as a number in base 256, the first the most significant, with zeros behind the end
abbrev pub head_of : ℕ → List ℕ → ℕ
head_of zero text = 0
head_of (suc more) [] = 0
head_of (suc more) (byte ∷ text) = byte * 256 ^ more + head_of more text

-- the eight bytes behind the first `skip`
abbrev pub head_at : ℕ → List ℕ → ℕ
head_at skip text = head_of 8 (drop skip text)
