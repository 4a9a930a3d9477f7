-- Entries that are loaded into a map without entries, and why they are refused.
use Rattle.std.specs.Prelude.{◌≡◌, ◌≢◌, ◌<◌, ◌&&◌, ℕ, Bool, true, false, List, [], ◌∷◌, All, get_or, length}
use Rattle.std.specs.Ordering.{is_lt, nat_cmp}
use Rattle.std.specs.declared.cmp.Ordering.{Ordering}
use Rattle.art_bytes.specs.Text.{text_order}
use Rattle.art_c_maps.specs.Refusals.{IsNotTooLong, IsTooLong}
use Rattle.art_c_maps.specs.declared.refusal.LoadRefusal.{LoadRefusal}
use Rattle.art_c_maps.specs.declared.refusal.LoadRefusal.TheVariants.{NotEmpty, NotAscending, KeyTooLong, OutOfMemory}

-- whether each of these keys is below the next one
abbrev pub ascend : {K : Type 0} → (K → K → Ordering) → List K → Bool
ascend order [] = true
ascend order (key ∷ []) = true
ascend order (key ∷ next ∷ keys) = is_lt (order key next) && ascend order (next ∷ keys)

-- some of these keys is too long
abbrev pub SomeTooLong : List (List ℕ) → Type 0
SomeTooLong keys = (i : ℕ) × (i < length keys) × IsTooLong (get_or keys i [])

-- none of them is
abbrev pub NoneTooLong : List (List ℕ) → Type 0
NoneTooLong keys = All IsNotTooLong keys

-- a map with these entries takes entries with these keys, where it gets memory for them
abbrev pub TakesNumbers : List (ℕ × ℕ) → List ℕ → Type 0
TakesNumbers held keys = (held ≡ []) × (ascend nat_cmp keys ≡ true)

abbrev pub TakesBytes : List (List ℕ × ℕ) → List (List ℕ) → Type 0
TakesBytes held keys = (held ≡ []) × (ascend text_order keys ≡ true) × NoneTooLong keys

-- the refusal is due to the entries that the map has or to these keys, the first that is named; or else memory is refused
abbrev pub IsNumberLoadRefused : List (ℕ × ℕ) → List ℕ → LoadRefusal → Type 0
IsNumberLoadRefused held keys NotEmpty = held ≢ []
IsNumberLoadRefused held keys NotAscending = (held ≡ []) × (ascend nat_cmp keys ≡ false)
IsNumberLoadRefused held keys KeyTooLong = ⊥
IsNumberLoadRefused held keys OutOfMemory = TakesNumbers held keys

abbrev pub IsBytesLoadRefused : List (List ℕ × ℕ) → List (List ℕ) → LoadRefusal → Type 0
IsBytesLoadRefused held keys NotEmpty = held ≢ []
IsBytesLoadRefused held keys NotAscending = (held ≡ []) × (ascend text_order keys ≡ false)
IsBytesLoadRefused held keys KeyTooLong = (held ≡ []) × (ascend text_order keys ≡ true) × SomeTooLong keys
IsBytesLoadRefused held keys OutOfMemory = TakesBytes held keys
