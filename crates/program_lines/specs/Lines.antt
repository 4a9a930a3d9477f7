-- Lines of bytes, and what they say.
use Rattle.std.specs.Prelude.{◌≡◌, ◌≢◌, ℕ, ◌+◌, ◌-◌, ◌==◌, List, [], ◌∷◌, ◌++◌, All, Some, length, slice_get, slice_index_or}
use Rattle.std.specs.List.{slice_split}

-- parts but for a last one that is empty
abbrev pub without_empty_last : List (List ℕ) → List (List ℕ)
without_empty_last [] = []
without_empty_last ([] ∷ []) = []
without_empty_last (part ∷ parts) = part ∷ without_empty_last parts

-- a line ends at byte 10, and a last line without one counts where it has a byte
abbrev pub lines_of : List ℕ → List (List ℕ)
lines_of bytes = without_empty_last (slice_split (λ b. b == 10) bytes)

-- the line of this number, from 1
abbrev pub line_at : List (List ℕ) → ℕ → List ℕ
line_at lines number = slice_index_or lines (number - 1) []

-- the last byte is a carriage return
abbrev pub EndsInReturn : List ℕ → Type 0
EndsInReturn line = slice_get line (length line - 1) ≡ Some 13

-- the line has no carriage return at its end, and says the item
abbrev pub SayLine : {C : Type 0} → (List ℕ → C → Type 0) → List ℕ → C → Type 0
SayLine Say line item = (¬ EndsInReturn line) × Say line item

-- a line of the output is its bytes and byte 10
abbrev pub line : List ℕ → List ℕ
line text = text ++ 10 ∷ []

module _ {C : Type 0} (Say : List ℕ → C → Type 0) where
  -- the lines say these, one a line
  abbrev pub SayAll : List (List ℕ) → List C → Type 0
  SayAll [] [] = Unit {0}
  SayAll (line ∷ lines) (item ∷ items) = Say line item × SayAll lines items
  SayAll [] (item ∷ items) = ⊥
  SayAll (line ∷ lines) [] = ⊥

  -- the line of this number, from 1, is the first that says nothing
  abbrev pub IsFirstBad : List (List ℕ) → ℕ → Type 0
  IsFirstBad lines number =
      (before after : List (List ℕ)) × (bad : List ℕ) × (items : List C) × (lines ≡ before ++ bad ∷ after) × (number ≡ length before + 1)
      × SayAll before items × ((item : C) → ¬ Say bad item)

-- no byte is this one
abbrev pub HasNo : ℕ → List ℕ → Type 0
HasNo at bytes = All (λ byte. byte ≢ at) bytes

-- the bytes are cut at the first such byte
abbrev pub IsCutAt : ℕ → List ℕ → List ℕ → List ℕ → Type 0
IsCutAt at bytes before after = (bytes ≡ before ++ at ∷ after) × HasNo at before
