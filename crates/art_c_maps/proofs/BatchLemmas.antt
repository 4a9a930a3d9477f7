-- A batch, entry by entry.
use Rattle.std.proofs.Common.{◌≡◌, ◌<◌, ◌≤◌, ◌+◌, ◌-◌, ◌∙◌, ℕ, zero, suc, List, [], ◌∷◌, ◌++◌, length, take, drop, Option, Some, None, refl, sym, ap, subst, arith, add-one, append_assoc, length-append}
use Rattle.std.specs.Option.{option_map}
use Rattle.std.specs.Prelude.{◌≢◌}
use Rattle.std.proofs.lemmas.Bool.{le-leb, lt-leb}
use Rattle.std.proofs.lemmas.List.{append-nil, drop_all, drop-append-le, drop-drop, length-map, length-take, take_all, take-append-le, take-map}
use Rattle.art_c_maps.specs.Batch.{ends_after, ends_of, fit_count, joined_keys, unfit_len}
use Rattle.art_c_maps.specs.Entries.{begun_with, first_of, keys_of, values_of}

abbrev Entry : Type 0
Entry = List ℕ × ℕ

module _ (x : Entry) (rest : List Entry) where
  fit_one : (most room : ℕ) → length x.0 ≤ room → fit_count (suc most) room (x ∷ rest) ≡ suc (fit_count most (room - length x.0) rest)
  fit_one most room fits = rw (le-leb (length x.0) room fits) refl

  fit_none : (most room : ℕ) → room < length x.0 → fit_count (suc most) room (x ∷ rest) ≡ 0
  fit_none most room big = rw (lt-leb (length x.0) room big) refl

none_fit : (most room : ℕ) → fit_count most room [] ≡ 0
none_fit zero room = refl
none_fit (suc most) room = refl

-- the first `k` entries fit into the first `at` bytes, so the count goes on behind them
abbrev pub FitsSoFar : List Entry → (most size k at : ℕ) → Type 0
FitsSoFar all most size k at = fit_count most size all ≡ k + fit_count (most - k) (size - at) (drop k all)

module _ (all : List Entry) (most size k at : ℕ) where
  -- one more key fits
  pub one-fits : (x : Entry) (rest : List Entry) → drop k all ≡ x ∷ rest → rest ≡ drop (k + 1) all → k < most → length x.0 ≤ size - at
      → FitsSoFar all most size k at → FitsSoFar all most size (k + 1) (at + length x.0)
  one-fits x rest here behind more fits so_far =
      let m : most - k ≡ suc (most - (k + 1)) = omega (arith, more) in
      let r : (size - at) - length x.0 ≡ size - (at + length x.0) = omega arith in
      let one = fit_one x rest (most - (k + 1)) (size - at) fits in
      let n = fit_count (most - (k + 1)) (size - (at + length x.0)) (drop (k + 1) all) in
      let step : fit_count (most - k) (size - at) (drop k all) ≡ suc n = rw (here, m) (one ∙ rw (r, behind) refl) in
      omega (arith, so_far, step)

  -- a key does not fit, no entry is left, or no more are asked for
  pub big-ends : (x : Entry) (rest : List Entry) → drop k all ≡ x ∷ rest → k < most → size - at < length x.0 → FitsSoFar all most size k at → fit_count most size all ≡ k
  big-ends x rest here more big so_far =
      let m : most - k ≡ suc (most - (k + 1)) = omega (arith, more) in
      let step : fit_count (most - k) (size - at) (drop k all) ≡ 0 = rw (here, m) (fit_none x rest (most - (k + 1)) (size - at) big) in
      omega (arith, so_far, step)

  pub none-ends : drop k all ≡ [] → FitsSoFar all most size k at → fit_count most size all ≡ k
  none-ends none so_far =
      let step : fit_count (most - k) (size - at) (drop k all) ≡ 0 = rw none (none_fit (most - k) (size - at)) in omega (arith, so_far, step)

  pub most-ends : most ≤ k → FitsSoFar all most size k at → fit_count most size all ≡ k
  most-ends all_asked so_far =
      let m : most - k ≡ 0 = omega (arith, all_asked) in
      let step : fit_count (most - k) (size - at) (drop k all) ≡ 0 = rw m refl in omega (arith, so_far, step)

-- the keys so far and one more
pub joined_keys-one : (all : List Entry) (k : ℕ) (x : Entry) (rest : List Entry) → drop k all ≡ x ∷ rest → joined_keys (take (k + 1) (keys_of all)) ≡ joined_keys (take k (keys_of all)) ++ x.0
joined_keys-one [] zero x rest here = absurd (cc)
joined_keys-one [] (suc k) x rest here = absurd (cc)
joined_keys-one (y ∷ all) zero x rest here = let same : y ≡ x = cc in append-nil y.0 ∙ ap (λ e. e.0) same
joined_keys-one (y ∷ all) (suc k) x rest here =
    let one : suc k ≡ k + 1 = omega arith in
    rw add-one (ap (λ bytes. y.0 ++ bytes) (ap (λ n. joined_keys (take n (keys_of all))) one ∙ joined_keys-one all k x rest here) ∙ sym (append_assoc y.0 (joined_keys (take k (keys_of all))) x.0))

-- the end of a key, behind the ends of those before it
ends-from : (start : ℕ) (all : List Entry) (k : ℕ) (x : Entry) (rest : List Entry) → drop k all ≡ x ∷ rest
    → drop k (ends_after start all) ≡ (start + length (joined_keys (take k (keys_of all))) + length x.0) ∷ ends_after (start + length (joined_keys (take k (keys_of all))) + length x.0) rest
ends-from start [] zero x rest here = absurd (cc)
ends-from start [] (suc k) x rest here = absurd (cc)
ends-from start (y ∷ all) zero x rest here =
    let none : start + 0 + length y.0 ≡ start + length y.0 = omega arith in
    let first : y ≡ x = cc in let later : all ≡ rest = cc in
    rw (← first, ← later) (sym (ap (λ n. n ∷ ends_after n all) none))
ends-from start (y ∷ all) (suc k) x rest here =
    let long : length (y.0 ++ joined_keys (take k (keys_of all))) ≡ length y.0 + length (joined_keys (take k (keys_of all))) = length-append y.0 (joined_keys (take k (keys_of all))) in
    let sum : start + length y.0 + length (joined_keys (take k (keys_of all))) + length x.0 ≡ start + length (y.0 ++ joined_keys (take k (keys_of all))) + length x.0 = omega (arith, long) in
    ends-from (start + length y.0) all k x rest here ∙ ap (λ n. n ∷ ends_after n rest) sum

pub ends-left : (all : List Entry) (k at : ℕ) (x : Entry) (rest : List Entry) → drop k all ≡ x ∷ rest → at ≡ length (joined_keys (take k (keys_of all)))
    → drop k (ends_of all) ≡ (at + length x.0) ∷ ends_after (at + length x.0) rest
ends-left all k at x rest here is =
    let sum : 0 + length (joined_keys (take k (keys_of all))) + length x.0 ≡ at + length x.0 = omega (arith, is) in
    ends-from 0 all k x rest here ∙ ap (λ n. n ∷ ends_after n rest) sum

pub length-ends : (start : ℕ) (all : List Entry) → length (ends_after start all) ≡ length all
length-ends start [] = refl
length-ends start (y ∷ all) = ap suc (length-ends (start + length y.0) all)

pub take-ends : (start n : ℕ) (all : List Entry) → take n (ends_after start all) ≡ ends_after start (take n all)
take-ends start zero all = refl
take-ends start (suc n) [] = refl
take-ends start (suc n) (y ∷ all) = ap (λ ends. (start + length y.0) ∷ ends) (take-ends (start + length y.0) n all)

-- a key is written behind those so far
pub key-written : (so_far bytes buffer keys : List ℕ) (at : ℕ) → keys ≡ so_far ++ drop at buffer → at ≡ length so_far
    → (take at keys ++ bytes) ++ drop (at + length bytes) keys ≡ (so_far ++ bytes) ++ drop (at + length bytes) buffer
key-written so_far bytes buffer keys at is long =
    let front : take at keys ≡ so_far = ap (take at) is ∙ take-append-le at so_far (drop at buffer) (omega (arith, long)) ∙ take_all at so_far (omega (arith, long)) in
    let tail : drop at keys ≡ drop at buffer = ap (drop at) is ∙ drop-append-le at so_far (drop at buffer) (omega (arith, long)) ∙ ap (λ xs. xs ++ drop at buffer) (drop_all at so_far (omega (arith, long))) in
    let behind : drop (at + length bytes) keys ≡ drop (at + length bytes) buffer =
    sym (drop-drop (length bytes) at keys) ∙ ap (drop (length bytes)) tail ∙ drop-drop (length bytes) at buffer in
    ap (λ xs. (xs ++ bytes) ++ drop (at + length bytes) keys) front ∙ ap (λ xs. (so_far ++ bytes) ++ xs) behind

-- the buffers at the end, when no more entries fit than are written
module _ (all : List Entry) (n k : ℕ) (is : n ≡ k) (enough : k ≤ length all) where
  pub keys-done : (buffer : List ℕ) (at : ℕ) → at ≡ length (joined_keys (take k (keys_of all)))
      → joined_keys (take k (keys_of all)) ++ drop at buffer ≡ begun_with (joined_keys (keys_of (take n all))) buffer
  keys-done buffer at long =
      ap (λ m. joined_keys (take k (keys_of all)) ++ drop m buffer) long
      ∙ ap (λ keys. joined_keys keys ++ drop (length (joined_keys keys)) buffer) (take-map (λ e. e.0) k all ∙ ap (λ m. keys_of (take m all)) (sym is))

  many : length (take n all) ≡ k
  many = omega (arith, is, enough, length-take n all)

  pub count-done : k ≡ length (take n all)
  count-done = sym many

  pub ends-done : (buffer : List ℕ) → take k (ends_of all) ++ drop k buffer ≡ begun_with (ends_of (take n all)) buffer
  ends-done buffer =
      let items : take k (ends_of all) ≡ ends_of (take n all) = take-ends 0 k all ∙ ap (λ m. ends_of (take m all)) (sym is) in
      ap (λ xs. xs ++ drop k buffer) items ∙ ap (λ m. ends_of (take n all) ++ drop m buffer) (sym (length-ends 0 (take n all) ∙ many))

  pub values-done : (buffer : List ℕ) → take k (values_of all) ++ drop k buffer ≡ begun_with (values_of (take n all)) buffer
  values-done buffer =
      let items : take k (values_of all) ≡ values_of (take n all) = take-map (λ e. e.1) k all ∙ ap (λ m. values_of (take m all)) (sym is) in
      ap (λ xs. xs ++ drop k buffer) items ∙ ap (λ m. values_of (take n all) ++ drop m buffer) (sym (length-map (take n all) (λ e. e.1) ∙ many))

-- whether the first key does not fit, when no more entries fit than are written
unfit-of : (written : List Entry) (first : Option Entry) → (length written ≡ 0 → first ≡ None) → None ≡ unfit_len written first
unfit-of [] first none = sym (ap (option_map (λ entry. length entry.0)) (none refl))
unfit-of (x ∷ written) first none = refl

module _ (all : List Entry) (n k : ℕ) (is : n ≡ k) (enough : k ≤ length all) where
  -- no entry is left
  pub none-unfit : drop k all ≡ [] → None ≡ unfit_len (take n all) (first_of all)
  none-unfit none = unfit-of (take n all) (first_of all) (λ zero_long.
      let zero_k : 0 ≡ k = omega (arith, zero_long, count-done all n k is enough) in
      ap first_of (subst (λ m. drop m all ≡ []) (sym zero_k) none))

  -- some are written
  pub some-unfit : 0 < k → None ≡ unfit_len (take n all) (first_of all)
  some-unfit some = unfit-of (take n all) (first_of all) (λ zero_long. absurd (omega (arith, some, zero_long, count-done all n k is enough)))

-- a key does not fit
pub big-unfit : (all : List Entry) (n k : ℕ) → n ≡ k → (len : ℕ) (found : Option ℕ) (x : Entry) (rest : List Entry) → drop k all ≡ x ∷ rest → len ≡ length x.0
    → (k ≡ 0 → found ≡ Some len) → (k ≢ 0 → found ≡ None) → found ≡ unfit_len (take n all) (first_of all)
big-unfit [] n zero is len found x rest here long first others = absurd (cc)
big-unfit [] n (suc k) is len found x rest here long first others = absurd (cc)
big-unfit (y ∷ all) n zero is len found x rest here long first others =
    let same : x ≡ y = cc in
    first refl ∙ ap Some (long ∙ ap (λ (e : Entry). length e.0) same) ∙ ap (λ m. unfit_len (take m (y ∷ all)) (Some y)) (sym is)
big-unfit (y ∷ all) n (suc k) is len found x rest here long first others =
    others (λ zero_k. absurd (omega (arith, zero_k))) ∙ ap (λ m. unfit_len (take m (y ∷ all)) (Some y)) (sym is)
