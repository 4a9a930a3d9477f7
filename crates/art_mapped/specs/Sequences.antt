-- The bytes of arrays and vectors.
use Rattle.std.specs.Prelude.{◌≡◌, ℕ, ◌*◌, List, take, drop, length, All, Vec}
use Rattle.std.specs.List.{flat_map}
use Rattle.std.specs.Vec.{vec_items}

-- the bytes of the elements, joined
abbrev pub joined : {E : Type 0} → (E → List ℕ) → List E → List ℕ
joined text elements = flat_map text elements

-- the bytes are those of some elements, joined
abbrev pub AreJoined : {E : Type 0} → (E → Type 0) → (E → List ℕ) → List ℕ → Type 0
AreJoined {E} is_element text bytes = ∥ ((elements : List E) × All is_element elements × (bytes ≡ joined text elements)) ∥₁

-- the part at an index, where each part has that many bytes
abbrev pub part : ℕ → ℕ → List ℕ → List ℕ
part width index bytes = take width (drop (index * width) bytes)

-- an array has exactly so many elements
abbrev pub IsArray : {E : Type 0} → ℕ → (E → Type 0) → List E → Type 0
IsArray n is_element elements = (length elements ≡ n) × All is_element elements

-- a vector has elements of the type
abbrev pub IsVec : {E A : Type 0} → (E → Type 0) → Vec E A → Type 0
IsVec is_element elements = All is_element (vec_items elements)

-- the bytes of the vector's elements, joined
abbrev pub vec_text : {E A : Type 0} → (E → List ℕ) → Vec E A → List ℕ
vec_text text elements = joined text (vec_items elements)
