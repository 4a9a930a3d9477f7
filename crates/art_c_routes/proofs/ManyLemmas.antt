-- Look-ups of many addresses, one after another.
use Rattle.std.proofs.Common.{◌≡◌, ◌≢◌, ◌∙◌, inl, inr, ℕ, ◌+◌, ◌<◌, List, drop, get_or, length, set, sym, ap, subst, arith, drop-drop}
use Rattle.std.proofs.lemmas.Bool.{cases_lt}
use Rattle.std.proofs.lemmas.List.{drop-set-lt, get_or-drop, get_or-set_other, get_or-set_same}

module _ (before now : List ℕ) (k : ℕ) (behind : drop k now ≡ drop k before) where
  -- what is behind the next place is as it was
  pub left-after : (x : ℕ) → drop (k + 1) (set now k x) ≡ drop (k + 1) before
  left-after x = drop-set-lt (k + 1) now k x (omega arith) ∙ sym (drop-drop 1 k now) ∙ ap (drop 1) behind ∙ drop-drop 1 k before

  -- the item at the next place is as it was
  pub untouched : get_or now k 0 ≡ get_or before k 0
  untouched =
      let here : k + 0 ≡ k = omega arith in
      ap (λ n. get_or now n 0) (sym here) ∙ sym (get_or-drop k now 0 0) ∙ ap (λ xs. get_or xs 0 0) behind ∙ get_or-drop k before 0 0 ∙ ap (λ n. get_or before n 0) here

-- one more is found
pub one-more : (P : ℕ → ℕ × ℕ → Type 0) (lengths values : List ℕ) (k x y : ℕ) → k < length lengths → k < length values → ((i : ℕ) → i < k → P i (get_or lengths i 0, get_or values i 0)) → P k (x, y)
    → (i : ℕ) → i < k + 1 → P i (get_or (set lengths k x) i 0, get_or (set values k y) i 0)
one-more P lengths values k x y in_lengths in_values so_far next i less = elim (cases_lt i k) [
  | inl earlier ↦
      let apart : i ≢ k = λ same. absurd (omega (arith, earlier, same)) in
      subst (P i) (λ j. (sym (get_or-set_other lengths k i x 0 apart) j, sym (get_or-set_other values k i y 0 apart) j)) (so_far i earlier)
  | inr not_earlier ↦
      let here : k ≡ i = omega (arith, less, not_earlier) in
      subst (λ n. P n (get_or (set lengths k x) n 0, get_or (set values k y) n 0)) here
      (subst (P k) (λ j. (sym (get_or-set_same lengths k x 0 in_lengths) j, sym (get_or-set_same values k y 0 in_values) j)) next)
]
