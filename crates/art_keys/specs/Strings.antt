-- Strings as their bytes plus one, and a zero at the end: no byte of UTF-8 is 254 or 255.
use Rattle.std.specs.Prelude.{ℕ, suc, ◌<◌, List, [], ◌∷◌, All}

-- each byte is below 254
abbrev pub IsStringText : List ℕ → Type 0
IsStringText bytes = All (λ byte. byte < 254) bytes

-- each byte plus one, and a zero
abbrev pub raised : List ℕ → List ℕ
raised [] = 0 ∷ []
raised (byte ∷ bytes) = suc byte ∷ raised bytes
