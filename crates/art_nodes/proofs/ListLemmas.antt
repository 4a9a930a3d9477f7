-- Lists: elements by index after an edit, and permutations.
use Rattle.std.proofs.Common.{◌≡◌, ℕ, zero, suc, ◌+◌, ◌-◌, ◌<◌, ◌≢◌, Bool, cond, List, [], ◌∷◌, ◌++◌, length, get_or, set, take, Option, Some, None, slice_get, nat_lt, eqb, eq-eqb, count_by, refl, sym, ◌∙◌, ap, arith, if◌then◌else◌, inl, inr}
use Rattle.std.specs.List.{remove, swap_remove, range_with_len}
use Rattle.std.specs.List.Sorted.{IsPermutation}
use Rattle.std.specs.Iterator.{YieldsFirst, YieldsLast}
use Rattle.std.proofs.lemmas.Bool.Decides.{nat_tests}
use Rattle.std.proofs.lemmas.List.{length-set, length-take, length-append}
use Rattle.std.proofs.lemmas.List.Sums.{sum_by-cons, sum_by-remove}
use Rattle.std.proofs.lemmas.List.Sorted.{IsPermutation-refl, IsPermutation-cons, IsPermutation-remove, IsPermutation-sym, IsPermutation-trans}
use Rattle.std.proofs.lemmas.Option.{slice_get-get_or}
use Rattle.art_nodes.proofs.ChildMapLemmas.{cases_eq, eq-false}

-- lists, by their optional elements
module _ {H : Type 0} where
  slice_get-last : (xs : List H) (x : H) → slice_get (xs ++ x ∷ []) (length xs) ≡ Some x
  slice_get-last [] x = refl
  slice_get-last (y ∷ xs) x = slice_get-last xs x

  -- the first item that an iterator over a list returns, from the start and from the end
  pub first_yielded : (xs : List H) (given : Option H) (left : List H) → YieldsFirst (λ l. l) xs given left → given ≡ slice_get xs 0
  first_yielded xs None left ends = rw ends.0 refl
  first_yielded xs (Some x) left is = rw is refl

  pub last_yielded : (xs : List H) (given : Option H) (left : List H) → YieldsLast (λ l. l) xs given left → given ≡ slice_get xs (length xs - 1)
  last_yielded xs None left ends = rw ends.0 refl
  last_yielded xs (Some x) left is =
      let at : length xs - 1 ≡ length left = omega (arith, ap length is, length-append left (x ∷ [])) in
      rw (at, is) (sym (slice_get-last left x))

  pub slice_get-set_same : (xs : List H) (i : ℕ) (x : H) → i < length xs → slice_get (set xs i x) i ≡ Some x
  slice_get-set_same [] i x within = absurd (omega arith)
  slice_get-set_same (y ∷ xs) zero x within = refl
  slice_get-set_same (y ∷ xs) (suc i) x within = slice_get-set_same xs i x (omega arith)

  pub slice_get-set_other : (xs : List H) (i j : ℕ) (x : H) → i ≢ j → slice_get (set xs i x) j ≡ slice_get xs j
  slice_get-set_other [] i j x differs = refl
  slice_get-set_other (y ∷ xs) zero zero x differs = absurd (differs refl)
  slice_get-set_other (y ∷ xs) zero (suc j) x differs = refl
  slice_get-set_other (y ∷ xs) (suc i) zero x differs = refl
  slice_get-set_other (y ∷ xs) (suc i) (suc j) x differs = slice_get-set_other xs i j x (λ e. differs (ap suc e))

  pub slice_get-push_before : (xs : List H) (j : ℕ) (x : H) → j < length xs → slice_get (xs ++ x ∷ []) j ≡ slice_get xs j
  slice_get-push_before [] j x within = absurd (omega arith)
  slice_get-push_before (y ∷ xs) zero x within = refl
  slice_get-push_before (y ∷ xs) (suc j) x within = slice_get-push_before xs j x (omega arith)

  pub slice_get-push_at : (xs : List H) (j : ℕ) (x : H) → j ≡ length xs → slice_get (xs ++ x ∷ []) j ≡ Some x
  slice_get-push_at [] zero x at = refl
  slice_get-push_at [] (suc j) x at = absurd (omega arith)
  slice_get-push_at (y ∷ xs) zero x at = absurd (omega arith)
  slice_get-push_at (y ∷ xs) (suc j) x at = slice_get-push_at xs j x (omega arith)

  pub length-swap_remove : (xs : List H) (i : ℕ) (d : H) → length (swap_remove xs i d) ≡ length xs - 1
  length-swap_remove xs i d = omega (arith, length-take (length xs - 1) (set xs i (get_or xs (length xs - 1) d)), length-set {A = H})

  pub slice_get-take : (xs : List H) (m j : ℕ) → j < m → slice_get (take m xs) j ≡ slice_get xs j
  slice_get-take [] zero j before = refl
  slice_get-take [] (suc m) j before = refl
  slice_get-take (y ∷ xs) zero j before = absurd (omega arith)
  slice_get-take (y ∷ xs) (suc m) zero before = refl
  slice_get-take (y ∷ xs) (suc m) (suc j) before = slice_get-take xs m j (omega arith)

  -- the last element takes the place of the one that goes, and no other moves
  pub slice_get-swap_remove_at : (xs : List H) (i : ℕ) (d : H) → i < length xs - 1 → slice_get (swap_remove xs i d) i ≡ slice_get xs (length xs - 1)
  slice_get-swap_remove_at xs i d before =
      let last = get_or xs (length xs - 1) d in
      slice_get-take (set xs i last) (length xs - 1) i before
      ∙ slice_get-set_same xs i last (omega arith)
      ∙ sym (slice_get-get_or xs (length xs - 1) d (omega arith))

  pub slice_get-swap_remove_other : (xs : List H) (i j : ℕ) (d : H) → j < length xs - 1 → i ≢ j → slice_get (swap_remove xs i d) j ≡ slice_get xs j
  slice_get-swap_remove_other xs i j d before differs =
      let last = get_or xs (length xs - 1) d in
      slice_get-take (set xs i last) (length xs - 1) j before ∙ slice_get-set_other xs i j last differs

-- 1 or 0, by a test
abbrev pub one_if : Bool → ℕ
one_if b = cond b 1 0

-- how often a number is in a list
abbrev pub times : ℕ → List ℕ → ℕ
times q xs = count_by (λ j. eqb j q) xs

pub times-cons : (q x : ℕ) (xs : List ℕ) → times q (x ∷ xs) ≡ cond (eqb x q) 1 0 + times q xs
times-cons q x xs = sum_by-cons (λ j. cond (eqb j q) 1 0) x xs

pub times-range : (a n q : ℕ) → times q (range_with_len a n) ≡ (if nat_lt q a then 0 else (if nat_lt q (a + n) then 1 else 0))
times-range a zero q = grind (arith, nat_tests)
times-range a (suc n) q = let rest = times-range (a + 1) n q in times-cons q a (range_with_len (a + 1) n) ∙ grind (arith, nat_tests, rest)

-- a number that is in a list has a place there
pub place_from_times : (x : ℕ) (ys : List ℕ) → 0 < times x ys → (i : ℕ) × (i < length ys) × (x ≡ get_or ys i x)
place_from_times x [] some = absurd (omega arith)
place_from_times x (y ∷ ys) some = elim (cases_eq y x) [
  | inl same ↦ (0, omega arith, sym same)
  | inr differs ↦
      let later : 0 < times x ys = omega (arith, times-cons x y ys, ap one_if (eq-false y x differs)) in
      let found = place_from_times x ys later in
      (suc found.0, omega (arith, found.1), found.2)
]

-- lists that have each number as often are one in another order
pub permutation_from_times : (xs ys : List ℕ) → ((q : ℕ) → times q xs ≡ times q ys) → IsPermutation xs ys
permutation_from_times [] [] same = IsPermutation-refl []
permutation_from_times [] (y ∷ ys) same = absurd (omega (arith, same y, times-cons y y ys, ap one_if (eq-eqb y y refl)))
permutation_from_times (x ∷ xs) ys same =
    let some : 0 < times x ys = omega (arith, same x, times-cons x x xs, ap one_if (eq-eqb x x refl)) in
    let found = place_from_times x ys some in
    let moved = IsPermutation-remove ys found.0 x found.1 found.2 in
    let rest = permutation_from_times xs (remove ys found.0) (λ q.
    let removed = sum_by-remove (λ j. cond (eqb j q) 1 0) ys found.0 x found.1 in
    let at = ap (λ j. one_if (eqb j q)) found.2 in
    omega (arith, same q, times-cons q x xs, removed, at)) in
    IsPermutation-trans (x ∷ xs) (x ∷ remove ys found.0) ys (IsPermutation-cons x xs (remove ys found.0) rest) (IsPermutation-sym ys (x ∷ remove ys found.0) moved)
