-- Texts that are cut at a byte, and into lines.
use Rattle.std.proofs.Common.{◌≡◌, ℕ, ◌+◌, ◌-◌, ◌<◌, ◌≤◌, ◌==◌, List, [], ◌∷◌, length, take, drop, refl, arith, ◌∙◌, ap}
use Rattle.std.specs.Prelude.{position, Some, None}
use Rattle.std.specs.List.{slice_split, position_or_len}
use Rattle.std.proofs.lemmas.List.{length-drop}
use Rattle.std.proofs.Math.Seq.{take-length}
use Rattle.std.proofs.lemmas.List.Splits.{slice_split_none, slice_split_first, length-slice_split}
use Rattle.std.proofs.lemmas.List.Sums.{fails_before_first, position_or_len_is}
use Rattle.std.proofs.lemmas.List.Quantifiers.{position-Some}
use Rattle.program_lines.specs.Lines.{lines_of, without_empty_last}

-- all that comes from a place on
pub rest_whole : (k : ℕ) (xs : List ℕ) → take (length xs - k) (drop k xs) ≡ drop k xs
rest_whole k xs = rw (← length-drop k xs) (take-length (drop k xs))

module _ (c : ℕ) (bytes : List ℕ) where
  pub alone : position (λ b. b == c) bytes ≡ None → slice_split (λ b. b == c) bytes ≡ bytes ∷ []
  alone none =
      let far : length bytes ≤ position_or_len (λ b. b == c) bytes = grind arith in
      slice_split_none (λ b. b == c) bytes (λ k d below. let before : k < position_or_len (λ b. b == c) bytes = omega arith in fails_before_first (λ b. b == c) bytes k d before)

  pub cut : (i : ℕ) → position (λ b. b == c) bytes ≡ Some i → slice_split (λ b. b == c) bytes ≡ take i bytes ∷ slice_split (λ b. b == c) (take (length bytes - (i + 1)) (drop (i + 1) bytes))
  cut i found =
      let at = position-Some (λ b. b == c) bytes i 0 found in
      let most : i ≤ length bytes = omega arith in
      let first : position_or_len (λ b. b == c) bytes ≡ i = position_or_len_is (λ b. b == c) bytes i 0 most at.2 (λ _. at.1) in
      let within : position_or_len (λ b. b == c) bytes < length bytes = omega arith in
      rw (rest_whole (i + 1) bytes, ← first) (slice_split_first (λ b. b == c) bytes 0 within)

pub last_kept : (part : List ℕ) (parts : List (List ℕ)) → 0 < length parts → without_empty_last (part ∷ parts) ≡ part ∷ without_empty_last parts
last_kept part [] some = absurd (omega arith)
last_kept [] (next ∷ parts) some = refl
last_kept (b ∷ part) (next ∷ parts) some = refl

last_alone : (part : List ℕ) → 0 < length part → without_empty_last (part ∷ []) ≡ part ∷ []
last_alone [] some = elim some [ ]
last_alone (b ∷ part) some = refl

-- a line is cut off at the first byte 10
pub lines_cut : (bytes : List ℕ) (i : ℕ) → position (λ b. b == 10) bytes ≡ Some i → lines_of bytes ≡ take i bytes ∷ lines_of (take (length bytes - (i + 1)) (drop (i + 1) bytes))
lines_cut bytes i found =
    let after : List ℕ = take (length bytes - (i + 1)) (drop (i + 1) bytes) in
    let some : 0 < length (slice_split (λ b. b == 10) after) = omega (arith, length-slice_split (λ b. b == 10) after) in
    ap without_empty_last (cut 10 bytes i found) ∙ last_kept (take i bytes) (slice_split (λ b. b == 10) after) some

pub lines_alone : (bytes : List ℕ) → 0 < length bytes → position (λ b. b == 10) bytes ≡ None → lines_of bytes ≡ bytes ∷ lines_of []
lines_alone bytes some none = ap without_empty_last (alone 10 bytes none) ∙ last_alone bytes some
