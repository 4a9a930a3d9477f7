-- Child maps: writes, removals and look-ups at the first pair and after it.
use Rattle.std.proofs.Common.{◌≡◌, ℕ, zero, suc, ◌+◌, ◌<◌, ◌≤◌, ◌≢◌, true, false, nat_eq, nat_lt, List, [], ◌∷◌, length, get_or, Some, None, refl, ap, subst, arith, filter, if◌then◌else◌, inl, inr, ◌⊎◌}
use Rattle.std.proofs.lemmas.Bool.{cases_lt}
use Rattle.std.specs.Option.{is_some}
use Rattle.std.proofs.lemmas.Bool.Decides.{nat_tests}
use Rattle.art_nodes.specs.ChildMap.{ChildMap, IsAscendingFrom, child_at, with_child, without_child, key_bytes}

-- the tests of two numbers, computed
pub lt-true : (a b : ℕ) → a < b → nat_lt a b ≡ true
lt-true a b h = grind (arith, nat_tests)

pub lt-false : (a b : ℕ) → b ≤ a → nat_lt a b ≡ false
lt-false a b h = grind (arith, nat_tests)

pub not_below : {a b : ℕ} → (a < b → ⊥) → b ≤ a
not_below {a} {b} above = elim (cases_lt a b) [ inl less ↦ absurd (above less) | inr le ↦ le ]

pub eq-false : (a b : ℕ) → a ≢ b → nat_eq a b ≡ false
eq-false a b h = grind (arith, nat_tests)

pub eq-true : (a b : ℕ) → a ≡ b → nat_eq a b ≡ true
eq-true a b h = grind (arith, nat_tests)

-- two numbers are equal or not
pub cases_eq : (a b : ℕ) → (a ≡ b) ⊎ (a ≢ b)
cases_eq a b = elim (cases_lt a b) [
  | inl below ↦ inr (λ e. omega arith)
  | inr from ↦ elim (cases_lt b a) [ inl above ↦ inr (λ e. omega arith) | inr upto ↦ inl (omega arith) ]
]

-- each ascending byte is at least the least
pub ascending-low : (low : ℕ) (bytes : List ℕ) → IsAscendingFrom low bytes → (k : ℕ) → k < length bytes → low ≤ get_or bytes k 0
ascending-low low [] asc k below = absurd (omega arith)
ascending-low low (b ∷ bytes) asc zero below = asc.0
ascending-low low (b ∷ bytes) asc (suc k) below = omega (arith, asc.0, ascending-low (suc b) bytes asc.2 k (omega arith))

-- of two places, the later has the greater byte
pub ascending-rises : (low : ℕ) (bytes : List ℕ) → IsAscendingFrom low bytes → (i j : ℕ) → i < j → j < length bytes → get_or bytes i 0 < get_or bytes j 0
ascending-rises low [] asc i j lt below = absurd (omega arith)
ascending-rises low (b ∷ bytes) asc i zero lt below = absurd (omega arith)
ascending-rises low (b ∷ bytes) asc zero (suc j) lt below = ascending-low (suc b) bytes asc.2 j (omega arith)
ascending-rises low (b ∷ bytes) asc (suc i) (suc j) lt below = ascending-rises (suc b) bytes asc.2 i j (omega arith) (omega arith)

-- there are at most as many as are left below 256
pub ascending-length : (low : ℕ) (bytes : List ℕ) → low ≤ 256 → IsAscendingFrom low bytes → length bytes + low ≤ 256
ascending-length low [] le asc = omega arith
ascending-length low (b ∷ bytes) le asc = omega (arith, asc.0, ascending-length (suc b) bytes (omega (arith, asc.1)) asc.2)

module _ {H : Type 0} where
  -- the children's bytes ascend from low on
  abbrev pub IsAbove : ℕ → ChildMap H → Type 0
  IsAbove low children = IsAscendingFrom low (key_bytes children)

  pub above-lower : (low lower : ℕ) (children : ChildMap H) → lower ≤ low → IsAbove low children → IsAbove lower children
  above-lower low lower [] le above = tt
  above-lower low lower (x ∷ children) le above = (omega (arith, above.0), above.1, above.2)

  -- none is below the least byte
  pub none_below : (low byte : ℕ) (children : ChildMap H) → byte ≤ low → IsAbove low children → filter (λ p. nat_lt p.0 byte) children ≡ []
  none_below low byte [] le above = refl
  none_below low byte (x ∷ children) le above = rw (lt-false x.0 byte (omega (arith, above.0))) (none_below (suc x.0) byte children (omega (arith, above.0)) above.2)

  -- all are above a lesser byte
  pub all_above : (low byte : ℕ) (children : ChildMap H) → byte < low → IsAbove low children → filter (λ p. nat_lt byte p.0) children ≡ children
  all_above low byte [] lt above = refl
  all_above low byte (x ∷ children) lt above = rw (lt-true byte x.0 (omega (arith, above.0))) (ap (λ rest. x ∷ rest) (all_above (suc x.0) byte children (omega (arith, above.0)) above.2))

  -- a byte below all others goes to the start
  pub with_child-front : (low byte : ℕ) (children : ChildMap H) (child : H) → byte < low → IsAbove low children → with_child children byte child ≡ (byte, child) ∷ children
  with_child-front low byte children child lt above = rw (none_below low byte children (omega arith) above, all_above low byte children lt above) refl

  -- the first byte is written over
  pub with_child-same : (front byte : ℕ) (old : H) (children : ChildMap H) (child : H) → front ≡ byte → IsAbove (suc front) children → with_child ((front, old) ∷ children) byte child ≡ (byte, child) ∷ children
  with_child-same front byte old children child same above = rw (lt-false front byte (omega arith), lt-false byte front (omega arith)) (with_child-front (suc front) byte children child (omega arith) above)

  -- a greater byte goes after the first
  pub with_child-later : (front byte : ℕ) (old : H) (children : ChildMap H) (child : H) → front < byte → with_child ((front, old) ∷ children) byte child ≡ (front, old) ∷ with_child children byte child
  with_child-later front byte old children child lt = rw (lt-true front byte lt, lt-false byte front (omega arith)) refl

  -- a byte below all others is not there
  pub child_at-front : (low byte : ℕ) (children : ChildMap H) → byte < low → IsAbove low children → child_at children byte ≡ None
  child_at-front low byte [] lt above = refl
  child_at-front low byte (x ∷ children) lt above = rw (eq-false x.0 byte (λ e. omega (arith, above.0))) (child_at-front (suc x.0) byte children (omega (arith, above.0)) above.2)

  pub child_at-same : (front byte : ℕ) (old : H) (children : ChildMap H) → front ≡ byte → child_at ((front, old) ∷ children) byte ≡ Some old
  child_at-same front byte old children same = rw (eq-true front byte same) refl

  pub child_at-later : (front byte : ℕ) (old : H) (children : ChildMap H) → front ≢ byte → child_at ((front, old) ∷ children) byte ≡ child_at children byte
  child_at-later front byte old children differs = rw (eq-false front byte differs) refl

  -- and so its removal changes nothing
  pub without_child-front : (low byte : ℕ) (children : ChildMap H) → byte < low → IsAbove low children → without_child children byte ≡ children
  without_child-front low byte [] lt above = refl
  without_child-front low byte (x ∷ children) lt above = rw (eq-false x.0 byte (λ e. omega (arith, above.0))) (ap (λ rest. x ∷ rest) (without_child-front (suc x.0) byte children (omega (arith, above.0)) above.2))

  pub without_child-same : (front byte : ℕ) (old : H) (children : ChildMap H) → front ≡ byte → IsAbove (suc front) children → without_child ((front, old) ∷ children) byte ≡ children
  without_child-same front byte old children same above = rw (eq-true front byte same) (without_child-front (suc front) byte children (omega arith) above)

  pub without_child-later : (front byte : ℕ) (old : H) (children : ChildMap H) → front ≢ byte → without_child ((front, old) ∷ children) byte ≡ (front, old) ∷ without_child children byte
  without_child-later front byte old children differs = rw (eq-false front byte differs) refl

  -- what a write leaves ascends
  pub above-with_child : (low byte : ℕ) (children : ChildMap H) (child : H) → low ≤ byte → byte < 256 → IsAbove low children → IsAbove low (with_child children byte child)
  above-with_child low byte [] child le fits above = (le, fits, tt)
  above-with_child low byte (x ∷ children) child le fits above = elim (cases_lt byte x.0) [
    | inl before ↦ rw (with_child-front x.0 byte (x ∷ children) child before (omega arith, above.1, above.2)) (le, fits, (omega arith, above.1, above.2))
    | inr from ↦ elim (cases_lt x.0 byte) [
      | inl after ↦ rw (with_child-later x.0 byte x.1 children child after) (above.0, above.1, above-with_child (suc x.0) byte children child (omega arith) fits above.2)
      | inr upto ↦
          let same : x.0 ≡ byte = omega arith in
          rw (with_child-same x.0 byte x.1 children child same above.2) (le, fits, subst (λ b. IsAbove (suc b) children) same above.2)
    ]
  ]

  -- what a removal leaves ascends
  pub above-without_child : (low byte : ℕ) (children : ChildMap H) → IsAbove low children → IsAbove low (without_child children byte)
  above-without_child low byte [] above = tt
  above-without_child low byte (x ∷ children) above = elim (cases_eq x.0 byte) [
    | inl same ↦ rw (without_child-same x.0 byte x.1 children same above.2) (above-lower (suc x.0) low children (omega (arith, above.0)) above.2)
    | inr differs ↦ rw (without_child-later x.0 byte x.1 children differs) (above.0, above.1, above-without_child (suc x.0) byte children above.2)
  ]

  -- a write of a new byte adds one, of another none
  pub length-with_child : (low byte : ℕ) (children : ChildMap H) (child : H) → IsAbove low children → length (with_child children byte child) ≡ (if is_some (child_at children byte) then length children else length children + 1)
  length-with_child low byte [] child above = refl
  length-with_child low byte (x ∷ children) child above = elim (cases_lt byte x.0) [
    | inl before ↦ rw (with_child-front x.0 byte (x ∷ children) child before (omega arith, above.1, above.2), child_at-front x.0 byte (x ∷ children) before (omega arith, above.1, above.2)) (omega arith)
    | inr from ↦ elim (cases_lt x.0 byte) [
      | inl after ↦ rw (with_child-later x.0 byte x.1 children child after, child_at-later x.0 byte x.1 children (λ e. omega arith)) (let rest = length-with_child (suc x.0) byte children child above.2 in grind (arith, nat_tests, rest))
      | inr upto ↦
          let same : x.0 ≡ byte = omega arith in
          rw (with_child-same x.0 byte x.1 children child same above.2, child_at-same x.0 byte x.1 children same) refl
    ]
  ]

  -- a removal of a byte that is there takes one away, of another none
  pub length-without_child : (low byte : ℕ) (children : ChildMap H) → IsAbove low children → length (without_child children byte) + (if is_some (child_at children byte) then 1 else 0) ≡ length children
  length-without_child low byte [] above = refl
  length-without_child low byte (x ∷ children) above = elim (cases_eq x.0 byte) [
    | inl same ↦ rw (without_child-same x.0 byte x.1 children same above.2, child_at-same x.0 byte x.1 children same) (omega arith)
    | inr differs ↦ rw (without_child-later x.0 byte x.1 children differs, child_at-later x.0 byte x.1 children differs) (let rest = length-without_child (suc x.0) byte children above.2 in omega (arith, rest))
  ]
