-- The items of a list between two places of it.
use Rattle.std.proofs.Common.{◌≡◌, ◌∙◌, ℕ, zero, suc, ◌+◌, ◌-◌, ◌<◌, ◌≤◌, Bool, true, false, not, ◌&&◌, cond, List, [], ◌∷◌, ◌++◌, All, length, length-append, take, drop, filter, append_assoc, refl, sym, ap, subst, arith}
use Rattle.std.proofs.lemmas.List.{drop_all, drop_at, length-take, length-take-le, take_at, take-append-drop}
use Rattle.std.proofs.lemmas.List.Elements.{All-nil, All-head, All-tail, All-append}
use Rattle.art_map.specs.Seats.{IsGapOf}

-- a test fails at an item, or passes
abbrev pub Fails : {X : Type 0} → (X → Bool) → X → Type 0
Fails test item = test item ≡ false

abbrev pub Passes : {X : Type 0} → (X → Bool) → X → Type 0
Passes test item = test item ≡ true

module _ {X : Type 0} (from past : X → Bool) where
  abbrev within : X → Bool
  within item = from item && not (past item)

  -- an item that is kept, or not
  step : (x : X) (l : List X) (a b : Bool) → from x ≡ a → past x ≡ b → filter within (x ∷ l) ≡ cond (a && not b) (x ∷ filter within l) (filter within l)
  step x l a b is also = λ i. cond (is i && not (also i)) (x ∷ filter within l) (filter within l)

  -- what is kept is between the gaps of both tests
  pub within-gaps : (l : List X) (m n : ℕ) → IsGapOf from l m → IsGapOf past l n → filter within l ≡ drop m (take n l)
  within-gaps [] zero zero first last = refl
  within-gaps [] zero (suc n) first last = refl
  within-gaps [] (suc m) zero first last = refl
  within-gaps [] (suc m) (suc n) first last = refl
  within-gaps (x ∷ l) zero zero first last =
      step x l true true (All-head (Passes from) x l first.1) (All-head (Passes past) x l last.1)
      ∙ within-gaps l zero zero (All-nil (Fails from), All-tail (Passes from) x l first.1) (All-nil (Fails past), All-tail (Passes past) x l last.1)
  within-gaps (x ∷ l) zero (suc n) first last =
      step x l true false (All-head (Passes from) x l first.1) (All-head (Fails past) x (take n l) last.0)
      ∙ ap (λ m. x ∷ m) (within-gaps l zero n (All-nil (Fails from), All-tail (Passes from) x l first.1) (All-tail (Fails past) x (take n l) last.0, last.1))
  within-gaps (x ∷ l) (suc m) zero first last =
      step x l false true (All-head (Fails from) x (take m l) first.0) (All-head (Passes past) x l last.1)
      ∙ within-gaps l m zero (All-tail (Fails from) x (take m l) first.0, first.1) (All-nil (Fails past), All-tail (Passes past) x l last.1)
      ∙ drop_all m [] (omega arith)
  within-gaps (x ∷ l) (suc m) (suc n) first last =
      step x l false false (All-head (Fails from) x (take m l) first.0) (All-head (Fails past) x (take n l) last.0)
      ∙ within-gaps l m n (All-tail (Fails from) x (take m l) first.0, first.1) (All-tail (Fails past) x (take n l) last.0, last.1)

module _ {X : Type 0} where
  take-none : (k : ℕ) → take {A = X} k [] ≡ []
  take-none zero = refl
  take-none (suc k) = refl

  -- between two places are so many items from the first one on
  pub between-part : (l : List X) (m n : ℕ) → drop m (take n l) ≡ take (n - m) (drop m l)
  between-part l zero n = let same : n - 0 ≡ n = omega arith in rw same refl
  between-part l (suc m) zero = let none : 0 - suc m ≡ 0 = omega arith in rw none refl
  between-part [] (suc m) (suc n) = sym (take-none (suc n - suc m))
  between-part (x ∷ l) (suc m) (suc n) = let same : suc n - suc m ≡ n - m = omega arith in rw same (between-part l m n)

  -- nothing is between a place and one that is not behind it
  pub between-none : (l : List X) (m n : ℕ) → n ≤ m → drop m (take n l) ≡ []
  between-none l m n none = let long = length-take n l in drop_all m (take n l) (omega (arith, long, none))

  -- what is between two places
  pub between-parts : (a b c : List X) (m n : ℕ) → length a ≡ m → length (a ++ b) ≡ n → drop m (take n (a ++ (b ++ c))) ≡ b
  between-parts a b c m n first last = ap (λ l. drop m (take n l)) (sym (append_assoc a b c)) ∙ ap (drop m) (take_at (a ++ b) c n last) ∙ drop_at a b m first

  -- a list that is parted within one of three parts
  module _ (a b c : List X) (i : ℕ) (inside : i ≤ length b) where
    pub parted-inside : a ++ (b ++ c) ≡ (a ++ take i b) ++ (drop i b ++ c)
    parted-inside =
        ap (λ l. a ++ (l ++ c)) (sym (take-append-drop i b)) ∙ ap (λ l. a ++ l) (append_assoc (take i b) (drop i b) c) ∙ sym (append_assoc a (take i b) (drop i b ++ c))

    pub long-inside : length (a ++ take i b) ≡ length a + i
    long-inside = length-append a (take i b) ∙ ap (λ n. length a + n) (length-take-le i b inside)

    pub take-inside : take (length a + i) (a ++ (b ++ c)) ≡ a ++ take i b
    take-inside = ap (take (length a + i)) parted-inside ∙ take_at (a ++ take i b) (drop i b ++ c) (length a + i) long-inside

    pub drop-inside : drop (length a + i) (a ++ (b ++ c)) ≡ drop i b ++ c
    drop-inside = ap (drop (length a + i)) parted-inside ∙ drop_at (a ++ take i b) (drop i b ++ c) (length a + i) long-inside

    -- the gap of a test is within a part
    pub gap-inside : (test : X → Bool) → All (Fails test) a → IsGapOf test b i → All (Passes test) c → IsGapOf test (a ++ (b ++ c)) (length a + i)
    gap-inside test before gap behind = (
      subst (All (Fails test)) (sym take-inside) (All-append (Fails test) a (take i b) before gap.0),
      subst (All (Passes test)) (sym drop-inside) (All-append (Passes test) (drop i b) c gap.1 behind),
    )

  -- between two places of one part
  pub between-inside : (a b c : List X) (i j : ℕ) → i ≤ length b → j ≤ length b → drop (length a + i) (take (length a + j) (a ++ (b ++ c))) ≡ drop i (take j b)
  between-inside a b c i j first last =
      ap (drop (length a + i)) (take-inside a b c j last) ∙ drop-more a (take j b)
    where
      drop-more : (a b : List X) → drop (length a + i) (a ++ b) ≡ drop i b
      drop-more [] b = let same : 0 + i ≡ i = omega arith in rw same refl
      drop-more (x ∷ a) b = let same : suc (length a) + i ≡ suc (length a + i) = omega arith in rw same (drop-more a b)

  -- from a place in one part to a place in a later one
  pub between-across : (a front between back c : List X) (i j : ℕ) → i ≤ length front → j ≤ length back
      → drop (length a + i) (take (length (a ++ (front ++ between)) + j) (a ++ (front ++ (between ++ (back ++ c))))) ≡ drop i front ++ (between ++ take j back)
  between-across a front between back c i j first last =
      ap (λ l. drop (length a + i) (take (length (a ++ (front ++ between)) + j) l)) regroup
      ∙ ap (drop (length a + i)) (take-inside (a ++ (front ++ between)) back c j last)
      ∙ ap (drop (length a + i)) again
      ∙ drop-inside a front (between ++ take j back) i first
    where
      regroup : a ++ (front ++ (between ++ (back ++ c))) ≡ (a ++ (front ++ between)) ++ (back ++ c)
      regroup = ap (λ l. a ++ l) (sym (append_assoc front between (back ++ c))) ∙ sym (append_assoc a (front ++ between) (back ++ c))

      again : (a ++ (front ++ between)) ++ take j back ≡ a ++ (front ++ (between ++ take j back))
      again = append_assoc a (front ++ between) (take j back) ∙ ap (λ l. a ++ l) (append_assoc front between (take j back))

  -- of two places in a list, the items before the later one go on with those from the earlier one
  pub ahead : (a : List X) (x : X) (b c : List X) (y : X) (d : List X) → a ++ x ∷ b ≡ c ++ y ∷ d → length a < length c → (m : List X) × (c ≡ a ++ x ∷ m)
  ahead [] x b [] y d is less = absurd (omega (arith, less))
  ahead [] x b (z ∷ c) y d is less = let first : z ≡ x = cc in (c, ap (λ w. w ∷ c) first)
  ahead (w ∷ a) x b [] y d is less = absurd (omega (arith, less))
  ahead (w ∷ a) x b (z ∷ c) y d is less =
      let first : z ≡ w = cc in
      let rest : a ++ x ∷ b ≡ c ++ y ∷ d = cc in
      let (m, later) = ahead a x b c y d rest (omega (arith, less)) in (m, λ i. first i ∷ later i)

  -- items up to a place are those before an earlier place, and those from it on
  pub up-to : (l a : List X) (x : X) (b c : List X) (y : X) (d : List X) → l ≡ a ++ x ∷ b → l ≡ c ++ y ∷ d → length a ≤ length c
      → c ++ y ∷ [] ≡ a ++ drop (length a) (take (suc (length c)) l)
  up-to l a x b c y d here there low =
      sym (take_at (c ++ y ∷ []) d (suc (length c)) (let long = length-append c (y ∷ []) in omega (arith, long)) ∙ refl)
      ∙ ap (take (suc (length c))) (append_assoc c (y ∷ []) d ∙ sym there)
      ∙ sym (take-append-drop (length a) (take (suc (length c)) l))
      ∙ ap (λ m. m ++ drop (length a) (take (suc (length c)) l)) (front l a x b c here low)
    where
      front : (l a : List X) (x : X) (b c : List X) → l ≡ a ++ x ∷ b → length a ≤ length c → take (length a) (take (suc (length c)) l) ≡ a
      front l a x b c here low = ap (λ m. take (length a) (take (suc (length c)) m)) here ∙ first-part a x b (length c) low
        where
          first-part : (a : List X) (x : X) (b : List X) (n : ℕ) → length a ≤ n → take (length a) (take (suc n) (a ++ x ∷ b)) ≡ a
          first-part [] x b n low = refl
          first-part (w ∷ a) x b zero low = absurd (omega (arith, low))
          first-part (w ∷ a) x b (suc n) low = ap (λ m. w ∷ m) (first-part a x b n (omega (arith, low)))
