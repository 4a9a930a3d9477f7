-- What bytes stand for under a mapping.
use Rattle.std.specs.Prelude.{◌≡◌, ℕ, List}

-- the bytes stand for some value of the domain
abbrev pub StandsForSome : {B D : Type 0} → (D → Type 0) → (B → D → Type 0) → B → Type 0
StandsForSome {B} {D} is_in_domain stands_for bytes = ∥ ((value : D) × is_in_domain value × stands_for bytes value) ∥₁

-- the bytes are the text of the value
abbrev pub HasTextOf : {B D : Type 0} → (B → List ℕ) → (D → List ℕ) → B → D → Type 0
HasTextOf text text_of bytes value = text bytes ≡ text_of value

-- the value is in range, and the bytes are its text
abbrev pub HasTextInRange : {B D : Type 0} → (D → Type 0) → (B → List ℕ) → (D → List ℕ) → B → D → Type 0
HasTextInRange is_in_range text text_of bytes value = is_in_range value × (text bytes ≡ text_of value)

-- the key holds some value
abbrev pub HoldsSome : {K D : Type 0} → (K → D → Type 0) → K → Type 0
HoldsSome {K} {D} holds key = ∥ ((value : D) × holds key value) ∥₁
