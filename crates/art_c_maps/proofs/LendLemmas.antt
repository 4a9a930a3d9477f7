-- Entries that are lent one after another.
use Rattle.std.proofs.Common.{◌≡◌, ◌<◌, ◌≤◌, ◌+◌, ◌∙◌, ℕ, zero, suc, List, [], ◌∷◌, ◌++◌, length, min, take, drop, set, refl, sym, ap, subst, arith, add-one}
use Rattle.std.proofs.Math.Seq.{take-append_seam}
use Rattle.std.proofs.lemmas.List.{drop-drop, drop-set-lt, length-set, length-take, take_more_set}
use Rattle.std.specs.List.{AllZip}
use Rattle.art_c_maps.proofs.WriteLemmas.{left-behind, take-min}

-- one more pair of items
pub pairs-and-one : {A B : Type 0} (R : A → B → Type 0) (xs : List A) (ys : List B) (x : A) (y : B)
    → AllZip R xs ys → R x y → AllZip R (xs ++ x ∷ []) (ys ++ y ∷ [])
pairs-and-one R [] [] x y all one = (one, tt)
pairs-and-one R [] (z ∷ ys) x y all one = absurd all
pairs-and-one R (z ∷ xs) [] x y all one = absurd all
pairs-and-one R (a ∷ xs) (b ∷ ys) x y all one = (all.0, pairs-and-one R xs ys x y all.1 one)

-- the items up to one more
pub one-more : {X : Type 0} (xs : List X) (k : ℕ) (x : X) (rest : List X) → drop k xs ≡ x ∷ rest → take (k + 1) xs ≡ take k xs ++ x ∷ []
one-more [] zero x rest left = absurd (cc)
one-more [] (suc k) x rest left = absurd (cc)
one-more (y ∷ xs) zero x rest left = let same : y ≡ x = cc in ap (λ w. w ∷ []) same
one-more (y ∷ xs) (suc k) x rest left = rw add-one (ap (λ all. y ∷ all) (rw add-one refl ∙ one-more xs k x rest left))

-- what a list begins with
pub first-of-two : {X : Type 0} (all front back : List X) → all ≡ front ++ back → front ≡ take (length front) all
first-of-two all front back is = sym (take-append_seam front back) ∙ ap (take (length front)) (sym is)

-- no item at the front, and none at all
pub none-of-two : {X : Type 0} (all front : List X) → (front ≡ [] → all ≡ []) → length front ≡ 0 → all ≡ []
none-of-two all [] none is = none refl
none-of-two all (x ∷ front) none is = absurd (cc)

module _ {A B : Type 0} (R : A → B → Type 0) (all : List A) (old : List B) where
  -- so many places are filled
  pub record Filled (now : List B) (k : ℕ) : Type 0 where
    pub enough : k ≤ length all
    pub lent : AllZip R (take k all) (take k now)
    pub others : drop k now ≡ drop k old
    pub room : length now ≡ length old

  -- one more place is filled
  pub one-filled : (now : List B) (k : ℕ) (x : A) (rest : List A) (y : B) → drop k all ≡ x ∷ rest → R x y → k < length now → Filled now k → Filled (set now k y) (k + 1)
  one-filled now k x rest y left one fits so_far = record {
    enough = (left-behind all k x rest left).1;
    lent = rw (one-more all k x rest left) (rw (take_more_set now k y fits) (pairs-and-one R (take k all) (take k now) x y so_far.lent one));
    others = drop-set-lt (k + 1) now k y (omega arith) ∙ sym (drop-drop 1 k now) ∙ ap (drop 1) so_far.others ∙ drop-drop 1 k old;
    room = length-set now k y ∙ so_far.room;
  }

  -- all of the entries are in places, or all places are filled
  pub filled-up : (now : List B) (k most : ℕ) → k ≡ min most (length all) → Filled now k
      → (k ≡ length (take most all)) × AllZip R (take most all) (take k now) × (drop k now ≡ drop k old)
  filled-up now k most is so_far =
      let items : take k all ≡ take most all = ap (λ n. take n all) is ∙ take-min most all in
      (is ∙ sym (length-take most all), subst (λ (some : List A). AllZip R some (take k now)) items so_far.lent, so_far.others)
