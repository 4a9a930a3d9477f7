-- A list with one member more in the middle, and the texts of a list of leaves with a leaf more.
use Rattle.art_steps.proofs.Names.{◌≡◌, ◌⊎◌, ℕ, List, ◌∷◌, ◌++◌, map, Contains, sym, subst, inl, inr, map-append, Contains-append_left, Contains-append_right, Contains-append_cases, first_or_later, first_there, later_there}

module _ {A : Type 0} (left right : List A) (x y : A) where
  pub one-or-other : Contains (left ++ x ∷ right) y → (y ≡ x) ⊎ Contains (left ++ right) y
  one-or-other inside = elim (Contains-append_cases left (x ∷ right) y inside) [
    | inl earlier ↦ inr (Contains-append_left left right y earlier)
    | inr from ↦ elim (first_or_later x y right from) [ inl here ↦ inl (sym here) | inr later ↦ inr (Contains-append_right left right y later) ]
  ]

  pub other-stays : Contains (left ++ right) y → Contains (left ++ x ∷ right) y
  other-stays inside = elim (Contains-append_cases left right y inside) [
    | inl earlier ↦ Contains-append_left left (x ∷ right) y earlier
    | inr later ↦ Contains-append_right left (x ∷ right) y (later_there x y right later)
  ]

  pub one-there : y ≡ x → Contains (left ++ x ∷ right) y
  one-there is = Contains-append_right left (x ∷ right) y (first_there x y right (sym is))

module _ {H : Type 0} (left right : List (H × List ℕ)) (leaf : H) (x y : List ℕ) where
  abbrev lefts : List (List ℕ)
  lefts = map (λ l. l.1) left

  abbrev rights : List (List ℕ)
  rights = map (λ l. l.1) right

  -- each text is one of the others or that of the leaf
  pub text-or-new : Contains (map (λ l. l.1) (left ++ (leaf, x) ∷ right)) y → Contains (map (λ l. l.1) (left ++ right)) y ⊎ (y ≡ x)
  text-or-new inside = elim (one-or-other lefts rights x y (subst (λ all. Contains all y) (map-append (λ l. l.1) left ((leaf, x) ∷ right)) inside)) [
    | inl same ↦ inr same
    | inr other ↦ inl (subst (λ all. Contains all y) (sym (map-append (λ l. l.1) left right)) other)
  ]

  -- the others are among them
  pub text-stays : Contains (map (λ l. l.1) (left ++ right)) y → Contains (map (λ l. l.1) (left ++ (leaf, x) ∷ right)) y
  text-stays inside = subst (λ all. Contains all y) (sym (map-append (λ l. l.1) left ((leaf, x) ∷ right))) (other-stays lefts rights x y (subst (λ all. Contains all y) (map-append (λ l. l.1) left right) inside))

  -- and so is that of the leaf
  pub text-new : y ≡ x → Contains (map (λ l. l.1) (left ++ (leaf, x) ∷ right)) y
  text-new is = subst (λ all. Contains all y) (sym (map-append (λ l. l.1) left ((leaf, x) ∷ right))) (one-there lefts rights x y is)
