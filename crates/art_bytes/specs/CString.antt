-- C strings: bytes of which none is zero, and a zero byte after them.
use Rattle.std.specs.Prelude.{◌≡◌, ◌≢◌, ℕ, ◌<◌, List, [], ◌∷◌, ◌++◌, All, Some, slice_get, slice_index}

-- no byte is zero
abbrev pub HasNoZero : List ℕ → Type 0
HasNoZero bytes = All (λ byte. byte ≢ 0) bytes

-- the first zero byte is at that index
abbrev pub IsFirstZero : List ℕ → ℕ → Type 0
IsFirstZero bytes position = (slice_get bytes position ≡ Some 0) × ((k : ℕ) → k < position → slice_index bytes k ≢ 0)

-- exactly one byte is zero, the last
abbrev pub IsCString : List ℕ → Type 0
IsCString text = ∥ ((bytes : List ℕ) × HasNoZero bytes × (text ≡ bytes ++ 0 ∷ [])) ∥₁
