-- Bytes that are cut at the first byte of a kind.
use Rattle.std.proofs.Common.{◌≡◌, ◌≢◌, ℕ, zero, suc, ◌+◌, ◌-◌, ◌<◌, ◌≤◌, ◌==◌, false, List, [], ◌∷◌, ◌++◌, length, take, drop, refl, sym, ◌∙◌, ap, arith, get_or, add-one, subst}
use Rattle.std.specs.Prelude.{position, Option, Some, None}
use Rattle.std.specs.List.{slice_split, position_or_len}
use Rattle.std.proofs.lemmas.List.Elements.{All-head, All-tail}
use Rattle.std.proofs.lemmas.List.Sums.{fails_before_first}
use Rattle.std.proofs.lemmas.List.Quantifiers.{position-Some}
use Rattle.program_lines.specs.Lines.{HasNo, IsCutAt}
use Rattle.program_lines.proofs.Parts.{rest_whole, alone, cut}

-- two ways to cut at a first byte are one
pub same_cut : (at : ℕ) (a b x y : List ℕ) → HasNo at a → HasNo at b → a ++ at ∷ x ≡ b ++ at ∷ y → (a ≡ b) × (x ≡ y)
same_cut at [] [] x y a_none b_none is = (refl, cc)
same_cut at [] (c ∷ b) x y a_none b_none is =
    let other : c ≢ at = All-head (λ byte. byte ≢ at) c b b_none in
    let same : c ≡ at = cc in
    absurd (other same)
same_cut at (c ∷ a) [] x y a_none b_none is =
    let other : c ≢ at = All-head (λ byte. byte ≢ at) c a a_none in
    let same : c ≡ at = cc in
    absurd (other same)
same_cut at (c ∷ a) (d ∷ b) x y a_none b_none is =
    let first : c ≡ d = cc in
    let later : a ++ at ∷ x ≡ b ++ at ∷ y = cc in
    let rest = same_cut at a b x y (All-tail (λ byte. byte ≢ at) c a a_none) (All-tail (λ byte. byte ≢ at) d b b_none) later in
    ((λ i. first i ∷ rest.0 i), rest.1)

-- where there is a cut there is such a byte
pub cut_has_one : (at : ℕ) (a x : List ℕ) → HasNo at (a ++ at ∷ x) → ⊥
cut_has_one at [] x none =
    let other : at ≢ at = All-head (λ byte. byte ≢ at) at x none in
    other refl
cut_has_one at (c ∷ a) x none = cut_has_one at a x (All-tail (λ byte. byte ≢ at) c (a ++ at ∷ x) none)

-- the bytes around an index
around : (xs : List ℕ) (i at : ℕ) → i < length xs → get_or xs i at ≡ at → xs ≡ take i xs ++ at ∷ drop (suc i) xs
around [] i at within is = absurd (omega (arith, within))
around (x ∷ xs) zero at within is = λ j. is j ∷ xs
around (x ∷ xs) (suc i) at within is = ap (λ rest. x ∷ rest) (around xs i at (omega (arith, within)) is)

none_before : (at : ℕ) (xs : List ℕ) (i : ℕ) → i < length xs → ((k : ℕ) (d : ℕ) → k < i → (get_or xs k d == at) ≡ false) → HasNo at (take i xs)
none_before at [] i within differ k d below = absurd (omega (arith, within))
none_before at (x ∷ xs) zero within differ k d below = absurd (omega (arith, below))
none_before at (x ∷ xs) (suc i) within differ zero d below = let apart = differ 0 d (omega arith) in λ same. absurd (grind (arith, apart, same))
none_before at (x ∷ xs) (suc i) within differ (suc k) d below = none_before at xs i (omega (arith, within)) (λ n e less. differ (suc n) e (omega (arith, less))) k d (omega (arith, below))

pub cut_at : (at : ℕ) (xs : List ℕ) (i : ℕ) → position (λ b. b == at) xs ≡ Some i → IsCutAt at xs (take i xs) (take (length xs - (i + 1)) (drop (i + 1) xs))
cut_at at xs i found =
    let here = position-Some (λ b. b == at) xs i at found in
    let same : get_or xs i at ≡ at = let test = here.1 in grind (arith, test) in
    (rw (rest_whole (i + 1) xs, add-one) (around xs i at here.0 same), none_before at xs i here.0 (λ k d below. (position-Some (λ b. b == at) xs i d found).2 k below))

pub none_at : (at : ℕ) (xs : List ℕ) → position (λ b. b == at) xs ≡ None → HasNo at xs
none_at at xs none k d below =
    let far : length xs ≤ position_or_len (λ b. b == at) xs = grind arith in
    let before : k < position_or_len (λ b. b == at) xs = omega arith in
    let apart = fails_before_first (λ b. b == at) xs k d before in
    λ same. absurd (grind (arith, apart, same))

-- bytes that are cut at each such byte: the first part, and the parts of what comes after it
pub parts_cut : (at : ℕ) (bytes before after : List ℕ) → IsCutAt at bytes before after → slice_split (λ b. b == at) bytes ≡ before ∷ slice_split (λ b. b == at) after
parts_cut at bytes before after is = by_place (position (λ b. b == at) bytes) refl
  where
    by_place : (place : Option ℕ) → position (λ b. b == at) bytes ≡ place → slice_split (λ b. b == at) bytes ≡ before ∷ slice_split (λ b. b == at) after
    by_place None none = absurd (cut_has_one at before after (subst (HasNo at) is.0 (none_at at bytes none)))
    by_place (Some i) found =
        let here = cut_at at bytes i found in
        let same = same_cut at (take i bytes) before (take (length bytes - (i + 1)) (drop (i + 1) bytes)) after here.1 is.1 (sym here.0 ∙ is.0) in
        cut at bytes i found ∙ (λ j. same.0 j ∷ slice_split (λ b. b == at) (same.1 j))

-- one part, where there is no such byte
pub parts_alone : (at : ℕ) (bytes : List ℕ) → HasNo at bytes → slice_split (λ b. b == at) bytes ≡ bytes ∷ []
parts_alone at bytes none = by_place (position (λ b. b == at) bytes) refl
  where
    by_place : (place : Option ℕ) → position (λ b. b == at) bytes ≡ place → slice_split (λ b. b == at) bytes ≡ bytes ∷ []
    by_place None is = alone at bytes is
    by_place (Some i) found = absurd (cut_has_one at (take i bytes) _ (subst (HasNo at) (cut_at at bytes i found).0 none))
