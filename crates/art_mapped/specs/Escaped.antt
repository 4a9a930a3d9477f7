-- Byte strings with their zero bytes escaped, ended by two zero bytes.
use Rattle.std.specs.Prelude.{◌≡◌, ℕ, zero, suc, List, [], ◌∷◌, ◌++◌, Bool, true, false, ◌&&◌, nat_eq, Vec}
use Rattle.std.specs.List.{flat_map}
use Rattle.std.specs.Vec.{vec_items}

-- a zero byte is written as 0, 255, and any other byte as itself
abbrev pub escape : ℕ → List ℕ
escape zero = 0 ∷ 255 ∷ []
escape (suc b) = suc b ∷ []

-- the bytes, each escaped
abbrev pub escaped : List ℕ → List ℕ
escaped bytes = flat_map escape bytes

-- the bytes, each escaped, and two zeros
abbrev pub escaped_text : List ℕ → List ℕ
escaped_text bytes = escaped bytes ++ 0 ∷ 0 ∷ []

-- the list is the escaped text of some bytes
abbrev pub IsEscaped : List ℕ → Type 0
IsEscaped text = ∥ ((bytes : List ℕ) × (text ≡ escaped_text bytes)) ∥₁

-- whether a list is an escaped text, read from its begin: each zero is followed by 255, or by a zero that ends the list
abbrev pub is_escaped : List ℕ → Bool
is_escaped [] = false
is_escaped (zero ∷ []) = false
is_escaped (zero ∷ zero ∷ []) = true
is_escaped (zero ∷ zero ∷ b ∷ rest) = false
is_escaped (zero ∷ suc b ∷ rest) = nat_eq (suc b) 255 && is_escaped rest
is_escaped (suc b ∷ rest) = is_escaped rest

-- the escaped text of the vector's bytes
abbrev pub vec_escaped_text : {A : Type 0} → Vec ℕ A → List ℕ
vec_escaped_text bytes = escaped_text (vec_items bytes)
