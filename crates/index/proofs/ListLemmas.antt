-- What the filters of a list keep: the first element, parts one after the other, and how many.
use Rattle.std.proofs.Common.{◌≡◌, ◌∙◌, ◌⊎◌, inl, inr, suc, ◌<◌, ◌≤◌, Bool, true, false, ◌||◌, cond, List, [], ◌∷◌, ◌++◌, length, filter, AllPairs, Contains, Some, None, refl, sym, ap, subst, arith}
use Rattle.std.specs.Prelude.{slice_get}
use Rattle.art_bytes.proofs.Members.{first_or_later, first_there, inside_part, later_there, none_inside}

module _ {X : Type 0} where
  -- what is so of each pair is so of the first element and a later one, and of each pair of the others
  pub pair_first : (R : X → X → Type 0) (x y : X) (xs : List X) → AllPairs R (x ∷ xs) → Contains xs y → R x y
  pair_first R x y xs pairs inside = subst (R x) inside.2 (pairs 0 (suc inside.0) y (omega arith) (omega (arith, inside.1)))

  pub pairs_rest : (R : X → X → Type 0) (x : X) (xs : List X) → AllPairs R (x ∷ xs) → AllPairs R xs
  pairs_rest R x xs pairs i j d before within = pairs (suc i) (suc j) d (omega (arith, before)) (omega (arith, within))

  -- the first element that passes comes before the others that do
  pub first_passes : (p : X → Bool) (R : X → X → Type 0) (xs : List X) (x : X) → AllPairs R xs → slice_get (filter p xs) 0 ≡ Some x → Contains xs x × (p x ≡ true) × ((y : X) → Contains xs y → p y ≡ true → (x ≡ y) ⊎ R x y)
  first_passes p R [] x pairs first = absurd (cc)
  first_passes p R (z ∷ zs) x pairs first = by_test (p z) refl first (first_passes p R zs x (pairs_rest R z zs pairs))
    where
      by_test : (t : Bool) → p z ≡ t → slice_get (cond t (z ∷ filter p zs) (filter p zs)) 0 ≡ Some x → (slice_get (filter p zs) 0 ≡ Some x → Contains zs x × (p x ≡ true) × ((y : X) → Contains zs y → p y ≡ true → (x ≡ y) ⊎ R x y))
          → Contains (z ∷ zs) x × (p x ≡ true) × ((y : X) → Contains (z ∷ zs) y → p y ≡ true → (x ≡ y) ⊎ R x y)
      by_test true is first rest =
          let same : z ≡ x = cc in
          let before : (y : X) → Contains (z ∷ zs) y → p y ≡ true → (x ≡ y) ⊎ R x y = λ y inside _. elim (first_or_later z y zs inside) [ inl here ↦ inl (sym same ∙ here) | inr later ↦ inr (subst (λ w. R w y) same (pair_first R z y zs pairs later)) ] in
          (first_there z x zs same, ap p (sym same) ∙ is, before)
      by_test false is first rest =
          let found = rest first in
          let before : (y : X) → Contains (z ∷ zs) y → p y ≡ true → (x ≡ y) ⊎ R x y = λ y inside passes. elim (first_or_later z y zs inside) [ inl here ↦ (let wrong : true ≡ false = sym passes ∙ ap p (sym here) ∙ is in absurd (cc)) | inr later ↦ found.2 y later passes ] in
          (later_there z x zs found.0, found.1, before)

  -- where there is no first element that passes, none does
  pub none_passes : (p : X → Bool) (xs : List X) (y : X) → slice_get (filter p xs) 0 ≡ None → Contains xs y → p y ≡ true → ⊥
  none_passes p xs y none inside passes = none_there (filter p xs) none (inside_part p xs y inside passes)
    where
      none_there : (ys : List X) → slice_get ys 0 ≡ None → Contains ys y → ⊥
      none_there [] none inside = none_inside y inside
      none_there (z ∷ zs) none inside = absurd (cc)

  -- where each passes, or none does
  pub all_pass : (p : X → Bool) (xs : List X) → ((x : X) → p x ≡ true) → filter p xs ≡ xs
  all_pass p [] each = refl
  all_pass p (x ∷ xs) each = rw (each x) (ap (λ all. x ∷ all) (all_pass p xs each))

  pub no_pass : (p : X → Bool) (xs : List X) → ((y : X) → Contains xs y → p y ≡ false) → filter p xs ≡ []
  no_pass p [] each = refl
  no_pass p (x ∷ xs) each = rw (each x (first_there x x xs refl)) (no_pass p xs (λ y inside. each y (later_there x y xs inside)))

  -- two tests that agree on each element
  pub same_filter : (p q : X → Bool) (xs : List X) → ((y : X) → Contains xs y → p y ≡ q y) → filter p xs ≡ filter q xs
  same_filter p q [] each = refl
  same_filter p q (x ∷ xs) each =
      rw (each x (first_there x x xs refl), same_filter p q xs (λ y inside. each y (later_there x y xs inside))) refl

  -- what passes one of two tests, where what passes the second comes after all that passes the first
  pub filter_parts : (p q s : X → Bool) (xs : List X) → AllPairs (λ x y. q x ≡ true → p y ≡ false) xs → ((y : X) → Contains xs y → q y ≡ true → p y ≡ false) → ((y : X) → Contains xs y → s y ≡ (p y || q y)) → filter s xs ≡ filter p xs ++ filter q xs
  filter_parts p q s [] pairs apart either = refl
  filter_parts p q s (x ∷ xs) pairs apart either =
      by_tests (p x) (q x) (s x) refl (either x here) (apart x here) (λ passes. no_pass p xs (λ y inside. pair_first (λ a b. q a ≡ true → p b ≡ false) x y xs pairs inside passes))
      (filter_parts p q s xs (pairs_rest (λ a b. q a ≡ true → p b ≡ false) x xs pairs) (λ y inside. apart y (later_there x y xs inside)) (λ y inside. either y (later_there x y xs inside)))
    where
      here : Contains (x ∷ xs) x
      here = first_there x x xs refl

      by_tests : (t u v : Bool) → q x ≡ u → v ≡ (t || u) → (q x ≡ true → t ≡ false) → (q x ≡ true → filter p xs ≡ []) → filter s xs ≡ filter p xs ++ filter q xs → cond v (x ∷ filter s xs) (filter s xs) ≡ cond t (x ∷ filter p xs) (filter p xs) ++ cond u (x ∷ filter q xs) (filter q xs)
      by_tests true true v is or apart gone rest = let wrong : true ≡ false = apart is in absurd (cc)
      by_tests true false v is or apart gone rest = rw or (ap (λ all. x ∷ all) rest)
      by_tests false true v is or apart gone rest = rw (or, gone is) (ap (λ all. x ∷ all) (rest ∙ ap (λ all. all ++ filter q xs) (gone is)))
      by_tests false false v is or apart gone rest = rw or rest

  -- fewer pass a test that is stricter, where an element passes the other alone
  pub no_more_pass : (p q : X → Bool) (xs : List X) → ((y : X) → p y ≡ true → q y ≡ true) → length (filter p xs) ≤ length (filter q xs)
  no_more_pass p q [] stricter = omega arith
  no_more_pass p q (x ∷ xs) stricter = by_tests (p x) (q x) (stricter x) (no_more_pass p q xs stricter)
    where
      by_tests : (t u : Bool) → (t ≡ true → u ≡ true) → length (filter p xs) ≤ length (filter q xs) → length (cond t (x ∷ filter p xs) (filter p xs)) ≤ length (cond u (x ∷ filter q xs) (filter q xs))
      by_tests true true step rest = omega (arith, rest)
      by_tests true false step rest = let wrong : false ≡ true = step refl in absurd (cc)
      by_tests false true step rest = omega (arith, rest)
      by_tests false false step rest = rest

  pub fewer_pass : (p q : X → Bool) (xs : List X) (x : X) → ((y : X) → p y ≡ true → q y ≡ true) → Contains xs x → p x ≡ false → q x ≡ true → length (filter p xs) < length (filter q xs)
  fewer_pass p q [] x stricter inside not_p is_q = absurd (none_inside x inside)
  fewer_pass p q (z ∷ zs) x stricter inside not_p is_q = by_place (first_or_later z x zs inside) (p z) (q z) refl refl (stricter z) (λ later. fewer_pass p q zs x stricter later not_p is_q)
    where
      by_place : (z ≡ x) ⊎ Contains zs x → (t u : Bool) → p z ≡ t → q z ≡ u → (t ≡ true → u ≡ true) → (Contains zs x → length (filter p zs) < length (filter q zs)) → length (cond t (z ∷ filter p zs) (filter p zs)) < length (cond u (z ∷ filter q zs) (filter q zs))
      by_place (inl same) true u is_t is_u step rest = let wrong : true ≡ false = sym is_t ∙ ap p same ∙ not_p in absurd (cc)
      by_place (inl same) false true is_t is_u step rest = omega (arith, no_more_pass p q zs stricter)
      by_place (inl same) false false is_t is_u step rest = let wrong : true ≡ false = sym is_q ∙ ap q (sym same) ∙ is_u in absurd (cc)
      by_place (inr later) true true is_t is_u step rest = omega (arith, rest later)
      by_place (inr later) true false is_t is_u step rest = let wrong : false ≡ true = step refl in absurd (cc)
      by_place (inr later) false true is_t is_u step rest = omega (arith, rest later)
      by_place (inr later) false false is_t is_u step rest = rest later
