-- Lines that are cut into words.
use Rattle.std.proofs.Common.{◌≡◌, ℕ, ◌<◌, ◌≤◌, ◌==◌, List, ◌∷◌, length, arith, ap}
use Rattle.std.proofs.lemmas.List.Splits.{length-slice_split}
use Rattle.art_cli.specs.Words.{words_of}

-- there is a word at least
has_word : (line : List ℕ) → 0 < length (words_of line)
has_word line = omega (arith, length-slice_split (λ b. b == 32) line)

-- three words are cut off, so there are four or more
pub more_words : (line a b c after_a after_b after_c : List ℕ) → words_of line ≡ a ∷ words_of after_a → words_of after_a ≡ b ∷ words_of after_b → words_of after_b ≡ c ∷ words_of after_c → (others : List (List ℕ)) × (words_of line ≡ a ∷ others) × (3 ≤ length others)
more_words line a b c after_a after_b after_c first second third =
    (words_of after_a, first, omega (arith, ap length second, ap length third, has_word after_c))
