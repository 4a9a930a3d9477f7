-- What a run writes.
use Rattle.std.specs.Prelude.{ℕ, ◌⊎◌, List, Option, take}
use Rattle.std.specs.Io.KnownBytes.{Keeps, Appends}

-- the first part of the text, and nothing else, is written
abbrev pub AppendsBeginning : Option (List ℕ) → Option (List ℕ) → List ℕ → Type 0
AppendsBeginning old new text = (count : ℕ) × Appends old new (take count text)

module _ (IsOutput : List ℕ → Type 0) where
  -- an output, and nothing else, is written
  abbrev pub Prints : Option (List ℕ) → Option (List ℕ) → Type 0
  Prints old new = (output : List ℕ) × IsOutput output × Appends old new output

  -- nothing is written, or the first part of an output
  abbrev pub PrintsBeginning : Option (List ℕ) → Option (List ℕ) → Type 0
  PrintsBeginning old new = Keeps old new ⊎ ((output : List ℕ) × IsOutput output × AppendsBeginning old new output)
