-- The words of entries and their places in order.
use Rattle.std.specs.Prelude.{◌≡◌, ℕ, suc, List, [], ◌∷◌, map, Vec}
use Rattle.std.specs.Vec.{vec_items}
use Rattle.words.specs.Replies.{IsList}

-- the words of these entries, each of a word and its place
abbrev pub entry_words : {A : Type 0} → List (Vec ℕ A × ℕ) → List (List ℕ)
entry_words entries = map (λ entry. vec_items entry.0) entries

-- the places count up from this number
abbrev pub CountsFrom : {K : Type 0} → ℕ → List (K × ℕ) → Type 0
CountsFrom n [] = Unit {0}
CountsFrom n (entry ∷ entries) = (entry.1 ≡ n) × CountsFrom (suc n) entries

-- they count up from some number
abbrev pub Counts : {K : Type 0} → List (K × ℕ) → Type 0
Counts entries = (n : ℕ) × CountsFrom n entries

-- the entries are the words of this list, with their places
abbrev pub IsWordTable : {A : Type 0} → List ℕ → List (Vec ℕ A × ℕ) → Type 0
IsWordTable list entries = IsList list (entry_words entries) × CountsFrom 0 entries
