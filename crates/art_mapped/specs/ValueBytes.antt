-- Which bytes are a value's.
use Rattle.std.specs.Prelude.{◌≡◌, ℕ, ◌<◌, List, length, slice_index}
use Rattle.art_mapped.specs.Mapping.{StandsForSome, HasTextOf}

-- exactly so many bytes
abbrev pub HasWidth : ℕ → List ℕ → Type 0
HasWidth width bytes = (length bytes ≡ width) × ((k : ℕ) → k < length bytes → slice_index bytes k < 256)

-- the list is the bytes of some value
abbrev pub IsTextOfSome : {D : Type 0} → (D → Type 0) → (D → List ℕ) → List ℕ → Type 0
IsTextOfSome is_in_domain text_of bytes = StandsForSome is_in_domain (HasTextOf (λ text. text) text_of) bytes
