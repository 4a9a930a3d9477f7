-- Entries tested one after the other: those that stay are moved to the front.
use Rattle.std.proofs.Common.{◌≡◌, ◌∙◌, ℕ, zero, suc, ◌+◌, ◌<◌, ◌≤◌, Bool, true, false, cond, List, [], ◌∷◌, ◌++◌, length, length-set, get_or, set, take, drop, swap, append_assoc, append-nil, drop-cons, drop-set-lt, get_or-set_same, drop_of_length-le, refl, sym, ap, subst, arith}
use Rattle.std.specs.Map.Calls.{CallableOnEachPair}
use Rattle.art_pages.specs.Retaining.{RetainsTo}
use Rattle.art_pages.proofs.RetainLemmas.{callable-back}

module _ {X : Type 0} where
  -- the front with one more item, which was behind it
  front : (xs : List X) (k i : ℕ) (d : X) → k ≤ i → i < length xs → take (suc k) (set (set xs k (get_or xs i d)) i (get_or xs k d)) ≡ take k xs ++ get_or xs i d ∷ []
  front [] k i d low within = absurd (omega (arith, within))
  front (x ∷ xs) zero zero d low within = refl
  front (x ∷ xs) zero (suc i) d low within = refl
  front (x ∷ xs) (suc k) zero d low within = absurd (omega (arith, low))
  front (x ∷ xs) (suc k) (suc i) d low within = ap (λ l. x ∷ l) (front xs k i d (omega (arith, low)) (omega (arith, within)))

  -- an item is at an index, whatever is read where there is none
  any-default : (xs : List X) (i : ℕ) (c d : X) → i < length xs → get_or xs i c ≡ get_or xs i d
  any-default [] i c d within = absurd (omega (arith, within))
  any-default (x ∷ xs) zero c d within = refl
  any-default (x ∷ xs) (suc i) c d within = any-default xs i c d (omega (arith, within))

  swapped-front : (xs : List X) (k i : ℕ) (x : X) → k ≤ i → i < length xs → x ≡ get_or xs i x → (ys : List X) → take (k + 1) (swap xs k i) ++ ys ≡ take k xs ++ x ∷ ys
  swapped-front [] k i x low within is ys = absurd (omega (arith, within))
  swapped-front (d ∷ xs) k i x low within is ys =
      let more : k + 1 ≡ suc k = omega arith in
      ap (λ n. take n (swap (d ∷ xs) k i) ++ ys) more
      ∙ ap (λ l. l ++ ys) (front (d ∷ xs) k i d low within ∙ ap (λ y. take k (d ∷ xs) ++ y ∷ []) (sym (is ∙ any-default (d ∷ xs) i x d within)))
      ∙ append_assoc (take k (d ∷ xs)) (x ∷ []) ys

  swapped-back : (xs : List X) (k i : ℕ) → k ≤ i → drop (i + 1) (swap xs k i) ≡ drop (i + 1) xs
  swapped-back [] k i low = refl
  swapped-back (d ∷ xs) k i low = drop-set-lt (i + 1) _ i _ (omega arith) ∙ drop-set-lt (i + 1) (d ∷ xs) k _ (omega (arith, low))

  begins : (xs : List X) (i : ℕ) (x : X) → i < length xs → x ≡ get_or xs i x → drop i xs ≡ x ∷ drop (i + 1) xs
  begins xs i x within is =
      let more : suc i ≡ i + 1 = omega arith in
      drop-cons xs i x within ∙ (λ j. sym is j ∷ drop (more j) xs)

  take-set : (k i : ℕ) (xs : List X) (x : X) → k ≤ i → take k (set xs i x) ≡ take k xs
  take-set zero i xs x low = refl
  take-set (suc k) i [] x low = refl
  take-set (suc k) zero (y ∷ xs) x low = absurd (omega (arith, low))
  take-set (suc k) (suc i) (y ∷ xs) x low = ap (λ l. y ∷ l) (take-set k i xs x (omega (arith, low)))

module _ {F K V : Type 0} (T : F → K → V → Bool → V → F → Type 0) (Q : F → K → V → Type 0) where
  -- the first entries were tested, up to an index, and those that stay are so many at the front
  pub record IsSifted (first : F) (entries : List (K × V)) (f : F) (now : List (K × V)) (kept place : ℕ) : Type 0 where
    pub callable : CallableOnEachPair T Q f (drop place now)
    pub tested : (rest : List (K × V)) (last : F) → RetainsTo T f (drop place now) rest last → RetainsTo T first entries (take kept now ++ rest) last

  pub sifted-start : (first : F) (entries : List (K × V)) → CallableOnEachPair T Q first entries → IsSifted first entries first entries 0 0
  sifted-start first entries callable = record { callable = callable; tested = λ rest last on. on }

  module _ {first : F} {entries : List (K × V)} {f : F} {now : List (K × V)} {kept place : ℕ} (is : IsSifted first entries f now kept place) where
    module _ (entry : K × V) (within : place < length now) (at : entry ≡ get_or now place entry) where
      callable-here : CallableOnEachPair T Q f (entry ∷ drop (place + 1) now)
      callable-here = subst (CallableOnEachPair T Q f) (begins now place entry within at) is.callable

      -- the test may be made of the next entry
      pub accepted : Q f entry.0 entry.1
      accepted = callable-here.at [] (drop (place + 1) now) f entry.0 entry.1 refl refl

      module _ (low : kept ≤ place) (value : V) (f' : F) where
        abbrev changed : List (K × V)
        changed = set now place (entry.0, value)

        next : (keeps : Bool) → T f entry.0 entry.1 keeps value f' → (new : List (K × V)) (count : ℕ) → drop (place + 1) new ≡ drop (place + 1) now
            → ((rest : List (K × V)) → take count new ++ rest ≡ take kept now ++ cond keeps ((entry.0, value) ∷ rest) rest) → IsSifted first entries f' new count (place + 1)
        next keeps step new count back in_front = record {
          callable = subst (CallableOnEachPair T Q f') (sym back)
              (callable-back T Q (entry ∷ []) (drop (place + 1) now) f callable-here (cond keeps ((entry.0, value) ∷ []) []) f' (keeps, value, f', [], step, (refl, refl), refl));
          tested = λ rest last on.
              subst (λ l. RetainsTo T first entries l last) (sym (in_front rest))
              (is.tested (cond keeps ((entry.0, value) ∷ rest) rest) last
              (subst (λ l. RetainsTo T f l (cond keeps ((entry.0, value) ∷ rest) rest) last) (sym (begins now place entry within at))
              (keeps, value, f', rest, step, subst (λ l. RetainsTo T f' l rest last) back on, refl)));
        }

        pub sifted-out : T f entry.0 entry.1 false value f' → (new : List (K × V)) → new ≡ changed → (count : ℕ) → count ≡ kept → IsSifted first entries f' new count (place + 1)
        sifted-out step new same count so_many =
            next false step new count (ap (drop (place + 1)) same ∙ drop-set-lt (place + 1) now place (entry.0, value) (omega arith))
            (λ rest. (λ j. take (so_many j) (same j) ++ rest) ∙ ap (λ l. l ++ rest) (take-set kept place now (entry.0, value) low))

        pub sifted-in : T f entry.0 entry.1 true value f' → (new : List (K × V)) → new ≡ swap changed kept place → (count : ℕ) → count ≡ kept + 1 → IsSifted first entries f' new count (place + 1)
        sifted-in step new same count so_many =
            let long = length-set now place (entry.0, value) in
            next true step new count
            (ap (drop (place + 1)) same ∙ swapped-back changed kept place low ∙ drop-set-lt (place + 1) now place (entry.0, value) (omega arith))
            (λ rest. (λ j. take (so_many j) (same j) ++ rest)
            ∙ swapped-front changed kept place (entry.0, value) low (omega (arith, within, long)) (sym (get_or-set_same now place (entry.0, value) (entry.0, value) within)) rest
            ∙ ap (λ l. l ++ (entry.0, value) ∷ rest) (take-set kept place now (entry.0, value) low))

    -- at the end
    pub sifted-end : length now ≤ place → (left : List (K × V)) → left ≡ take kept now → RetainsTo T first entries left f
    sifted-end over left same =
        subst (λ l. RetainsTo T first entries l f) (append-nil (take kept now) ∙ sym same)
        (is.tested [] f (subst (λ l. RetainsTo T f l [] f) (sym (drop_of_length-le now over)) (refl, refl)))
