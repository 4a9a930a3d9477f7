-- A list that is written into another, item by item.
use Rattle.std.proofs.Common.{◌≡◌, ◌<◌, ◌≤◌, ◌+◌, ◌∙◌, ℕ, zero, suc, min, List, [], ◌∷◌, ◌++◌, length, map, take, drop, set, refl, sym, ap, arith, add-one}
use Rattle.std.proofs.lemmas.List.{length-drop, length-map, length-take, take-map}
use Rattle.art_c_maps.specs.Entries.{begun_with}

module _ {X : Type 0} where
  -- behind the first items there is one more
  pub left-behind : (xs : List X) (k : ℕ) (x : X) (rest : List X) → drop k xs ≡ x ∷ rest → (rest ≡ drop (k + 1) xs) × (k + 1 ≤ length xs)
  left-behind [] zero x rest left = absurd (cc)
  left-behind [] (suc k) x rest left = absurd (cc)
  left-behind (y ∷ xs) zero x rest left = (cc, omega arith)
  left-behind (y ∷ xs) (suc k) x rest left = let later = left-behind xs k x rest left in (rw add-one (later.0 ∙ rw add-one refl), omega (arith, later.1))

  -- one more item is written
  pub one-written : (xs ys : List X) (k : ℕ) (x : X) (rest : List X) → drop k xs ≡ x ∷ rest → k < length ys
      → set (take k xs ++ drop k ys) k x ≡ take (k + 1) xs ++ drop (k + 1) ys
  one-written [] ys zero x rest left fits = absurd (cc)
  one-written [] ys (suc k) x rest left fits = absurd (cc)
  one-written (y ∷ xs) [] k x rest left fits = absurd (omega (arith, fits))
  one-written (y ∷ xs) (z ∷ ys) zero x rest left fits = let same : y ≡ x = cc in ap (λ w. w ∷ ys) (sym same)
  one-written (y ∷ xs) (z ∷ ys) (suc k) x rest left fits =
      rw add-one (ap (λ all. y ∷ all) (one-written xs ys k x rest left (omega (arith, fits)) ∙ rw add-one refl))

  -- behind all items there is none
  pub none-behind : (xs : List X) (k : ℕ) → drop k xs ≡ [] → length xs ≤ k
  none-behind xs k none = omega (arith, ap length none, length-drop k xs)

  pub take-min : (most : ℕ) (xs : List X) → take (min most (length xs)) xs ≡ take most xs
  take-min zero xs = let none : min 0 (length xs) ≡ 0 = omega arith in rw none refl
  take-min (suc most) [] = let none : min (suc most) 0 ≡ 0 = omega arith in rw none refl
  take-min (suc most) (x ∷ xs) = let one : min (suc most) (suc (length xs)) ≡ suc (min most (length xs)) = omega arith in rw one (ap (λ all. x ∷ all) (take-min most xs))

-- a buffer with as many items as there are, so many at most
pub all-written : {E X : Type 0} (pick : E → X) (all : List E) (buffer : List X) (most n : ℕ) → n ≡ min most (length all)
    → take n (map pick all) ++ drop n buffer ≡ begun_with (map pick (take most all)) buffer
all-written pick all buffer most n is =
    let items : take n (map pick all) ≡ map pick (take most all) = take-map pick n all ∙ ap (map pick) (ap (λ k. take k all) is ∙ take-min most all) in
    let long : length (map pick (take most all)) ≡ n = length-map (take most all) pick ∙ length-take most all ∙ sym is in
    ap (λ xs. xs ++ drop n buffer) items ∙ ap (λ k. map pick (take most all) ++ drop k buffer) (sym long)
