-- Lists without a member twice, and their parts.
use Rattle.art_search.proofs.Names.{◌≡◌, ◌≢◌, ℕ, List, [], ◌∷◌, ◌++◌, inl, inr, sym, arith, Contains, All-contains, Contains-append_cases, Contains-append_right, all_left, the_one, AreDistinct}

-- the parts of a list of different members are such lists, and have no member in common
pub AreDistinct-split : {A : Type 0} (xs ys : List A) → AreDistinct (xs ++ ys) → AreDistinct xs × AreDistinct ys × ((q : A) → Contains xs q → Contains ys q → ⊥)
AreDistinct-split [] ys distinct = (tt, distinct, λ q (k, inside, is) other. omega (arith, inside))
AreDistinct-split (x ∷ xs) ys distinct =
    let rest = AreDistinct-split xs ys distinct.1 in (
      (all_left (λ other. other ≢ x) xs ys distinct.0, rest.0),
      rest.1,
      λ q first second. elim (Contains-append_cases (x ∷ []) xs q first) [
        | inl here ↦ All-contains (λ other. other ≢ x) (xs ++ ys) q distinct.0 (Contains-append_right xs ys q second) (sym (the_one x q here))
        | inr later ↦ rest.2 q later second
      ],
    )
