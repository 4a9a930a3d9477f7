-- The words of a line.
use Rattle.std.specs.Prelude.{◌≡◌, ℕ, ◌==◌, ◌≤◌, List, [], ◌∷◌, length}
use Rattle.std.specs.List.{slice_split}
use Rattle.art_cli.specs.declared.replay.parse.Words.{Words}
use Rattle.art_cli.specs.declared.replay.parse.Words.TheVariants.{One, Two, Three, More}

-- a line is cut at each space
abbrev pub words_of : List ℕ → List (List ℕ)
words_of line = slice_split (λ b. b == 32) line

-- one to three words as they are, or the first of four or more. No public clause cites it
abbrev pub AreWords : List (List ℕ) → Words → Type 0
AreWords words (One first) = words ≡ first.now ∷ []
AreWords words (Two first second) = words ≡ first.now ∷ second.now ∷ []
AreWords words (Three first second third) = words ≡ first.now ∷ second.now ∷ third.now ∷ []
AreWords words (More first) = (others : List (List ℕ)) × (words ≡ first.now ∷ others) × (3 ≤ length others)
