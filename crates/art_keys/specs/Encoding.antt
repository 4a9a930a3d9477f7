-- The bytes of a key in an index.
use Rattle.std.specs.Prelude.{◌≡◌, ℕ, ◌-◌, ◌^◌, List, [], ◌∷◌, ◌++◌, min, map, Bool, cond, Option, Some, None, ⊤}
use Rattle.std.specs.Ordering.{ordering_then}
use Rattle.std.specs.declared.cmp.Ordering.{Ordering}
use Rattle.std.specs.declared.cmp.Ordering.TheVariants.{Less, Equal, Greater}
use Rattle.art_bytes.specs.Text.{text_order}

-- two encodings sort as their keys do, whatever follows each of them, and only what follows decides where the keys tie
abbrev pub SortedBy : Ordering → List ℕ → List ℕ → Type 0
SortedBy order a b = (r s : List ℕ) → text_order (a ++ r) (b ++ s) ≡ ordering_then order (text_order r s)

-- a length as a `usize`: the greatest one for each that does not fit
abbrev pub saturated : ℕ → ℕ
saturated n = min n (2 ^ 64 - 1)

-- the bytes of a key that sorts the other way round
abbrev pub complemented : List ℕ → List ℕ
complemented = map (λ byte. 255 - byte)

-- the bytes of an optional key: 0 for none, and 1 before those of the key
abbrev pub option_encoded : {K : Type 0} → (K → List ℕ) → Option K → List ℕ
option_encoded encoded None = 0 ∷ []
option_encoded encoded (Some key) = 1 ∷ encoded key

-- an optional key is none, or one of the type's
abbrev pub IsOptionKey : {K : Type 0} → (K → Type 0) → Option K → Type 0
IsOptionKey is_key None = ⊤
IsOptionKey is_key (Some key) = is_key key

-- where a query's encoding is below or above that of a key, so is the query; a tie of the encodings decides nothing
abbrev pub Agrees : Ordering → Ordering → Type 0
Agrees Less compared = compared ≡ Less
Agrees Equal compared = ⊤
Agrees Greater compared = compared ≡ Greater

-- the byte of a truth value
abbrev pub bool_encoded : Bool → List ℕ
bool_encoded value = cond value 1 0 ∷ []
