-- Entries that are put, or looked up, one after another.
use Rattle.std.proofs.Common.{◌≡◌, ◌<◌, ◌≤◌, ◌+◌, ◌-◌, ◌∙◌, ℕ, zero, suc, min, max, List, [], ◌∷◌, ◌++◌, length, map, take, drop, set, get_or, Option, refl, sym, ap, arith}
use Rattle.std.specs.List.{zip}
use Rattle.std.specs.declared.cmp.Ordering.{Ordering}
use Rattle.std.proofs.lemmas.List.{drop_more, get_or-map, length-drop, length-map, take_more}
use Rattle.std.proofs.lemmas.List.Sums.{fold-append}
use Rattle.std.proofs.lemmas.Slice.Zip.{get_or-zip, length-zip}
use Rattle.art_c_maps.specs.Entries.{begun_with, put, put_each}
use Rattle.art_c_maps.specs.Many.{are_found, cut, cut_from, found_or, found_values, one_if_found}
use Rattle.art_c_maps.proofs.WriteLemmas.{all-written, one-written, take-min}

-- ---- entries that are put
module _ {K V : Type 0} (order : K → K → Ordering) (entries : List (K × V)) (keys : List K) (values : List V) (i : ℕ) (d : K) (e : V) where
  -- one more is put
  pub put-more : i < length keys → i < length values
      → put order (put_each order entries (take i (zip keys values))) (get_or keys i d) (get_or values i e) ≡ put_each order entries (take (i + 1) (zip keys values))
  put-more in_keys in_values =
      let pairs = zip keys values in
      let within : i < length pairs = omega (arith, length-zip keys values, in_keys, in_values) in
      ap (λ (pair : K × V). put order (put_each order entries (take i pairs)) pair.0 pair.1) (sym (get_or-zip keys values i (d, e) in_keys in_values))
      ∙ sym (ap (put_each order entries) (take_more pairs i (d, e) within) ∙ fold-append (λ so_far other. put order so_far other.0 other.1) entries (take i pairs) (get_or pairs i (d, e) ∷ []))

-- ---- what look-ups find
-- what is made of the next item
next-made : {X Y : Type 0} (f : X → Y) (xs : List X) (i : ℕ) (d : X) → i < length xs → drop i (map f xs) ≡ f (get_or xs i d) ∷ drop (i + 1) (map f xs)
next-made f xs i d within =
    let mapped : i < length (map f xs) = omega (arith, within, length-map xs f) in
    drop_more (map f xs) i (f d) mapped ∙ ap (λ y. y ∷ drop (i + 1) (map f xs)) (get_or-map f xs i d (f d) within)

-- an item that is not written yet
get_or-behind : {X : Type 0} (written buffer : List X) (i : ℕ) (d : X) → i ≤ length written → i < length buffer → get_or (take i written ++ drop i buffer) i d ≡ get_or buffer i d
get_or-behind written buffer zero d enough within = refl
get_or-behind [] buffer (suc i) d enough within = absurd (omega (arith, enough))
get_or-behind (x ∷ written) [] (suc i) d enough within = absurd (omega (arith, within))
get_or-behind (x ∷ written) (y ∷ buffer) (suc i) d enough within = get_or-behind written buffer i d (omega (arith, enough)) (omega (arith, within))

module _ {K V : Type 0} (look : K → Option V) (keys : List K) where
  pub one-found : (found now : List ℕ) (i : ℕ) (d : K) → i < length keys → i < length found → now ≡ take i (are_found look keys) ++ drop i found
      → (flag : ℕ) → flag ≡ one_if_found (look (get_or keys i d)) → set now i flag ≡ take (i + 1) (are_found look keys) ++ drop (i + 1) found
  one-found found now i d in_keys in_found so_far flag is =
      ap (λ xs. set xs i flag) so_far ∙ ap (set (take i (are_found look keys) ++ drop i found) i) is
      ∙ one-written (are_found look keys) found i (one_if_found (look (get_or keys i d))) (drop (i + 1) (are_found look keys)) (next-made (λ key. one_if_found (look key)) keys i d in_keys) in_found

  pub one-value : (before now : List V) (i : ℕ) (d : K) (e : V) → i < length keys → i < length before → now ≡ take i (found_values look (zip keys before)) ++ drop i before
      → (value : V) → value ≡ found_or (look (get_or keys i d)) (get_or now i e) → set now i value ≡ take (i + 1) (found_values look (zip keys before)) ++ drop (i + 1) before
  one-value before now i d e in_keys in_values so_far value is =
      let pairs = zip keys before in let all = found_values look pairs in
      let within : i < length pairs = omega (arith, length-zip keys before, in_keys, in_values) in
      let enough : i ≤ length all = omega (arith, within, length-map pairs (λ (pair : K × V). found_or (look pair.0) pair.1)) in
      let untouched : get_or now i e ≡ get_or before i e = ap (λ xs. get_or xs i e) so_far ∙ get_or-behind all before i e enough in_values in
      let found = found_or (look (get_or keys i d)) (get_or before i e) in
      let next : drop i all ≡ found ∷ drop (i + 1) all =
      next-made (λ (pair : K × V). found_or (look pair.0) pair.1) pairs i (d, e) within
      ∙ ap (λ (pair : K × V). found_or (look pair.0) pair.1 ∷ drop (i + 1) all) (get_or-zip keys before i (d, e) in_keys in_values) in
      ap (λ xs. set xs i value) so_far ∙ ap (set (take i all ++ drop i before) i) (is ∙ ap (found_or (look (get_or keys i d))) untouched)
      ∙ one-written all before i found (drop (i + 1) all) next in_values

  pub all-found : (found : List ℕ) (n : ℕ) → n ≤ length keys → take n (are_found look keys) ++ drop n found ≡ begun_with (are_found look (take n keys)) found
  all-found found n within = all-written (λ key. one_if_found (look key)) keys found n n (omega (arith, within))

  pub all-values : (before : List V) (n : ℕ) → n ≤ length keys → n ≤ length before
      → take n (found_values look (zip keys before)) ++ drop n before ≡ begun_with (found_values look (take n (zip keys before))) before
  all-values before n in_keys in_values =
      all-written (λ (pair : K × V). found_or (look pair.0) pair.1) (zip keys before) before n n (omega (arith, length-zip keys before, in_keys, in_values))

-- ---- bytes that are cut into keys
drop-min : {X : Type 0} (n : ℕ) (xs : List X) → drop (min n (length xs)) xs ≡ drop n xs
drop-min zero xs = let none : min 0 (length xs) ≡ 0 = omega arith in rw none refl
drop-min (suc n) [] = let none : min (suc n) 0 ≡ 0 = omega arith in rw none refl
drop-min (suc n) (x ∷ xs) = let one : min (suc n) (suc (length xs)) ≡ suc (min n (length xs)) = omega arith in rw one (drop-min n xs)

pub between : (bytes : List ℕ) (start end from to : ℕ) → from ≡ min start (length bytes) → to ≡ max (min end (length bytes)) from
    → take (to - from) (drop from bytes) ≡ take (end - start) (drop start bytes)
between bytes start end from to begins ends =
    let left = drop from bytes in
    let same : min (to - from) (length left) ≡ min (end - start) (length left) = omega (arith, begins, ends, length-drop from bytes) in
    sym (take-min (to - from) left) ∙ ap (λ n. take n left) same ∙ take-min (end - start) left
    ∙ ap (take (end - start)) (ap (λ n. drop n bytes) begins ∙ drop-min start bytes)

pub length-cut : (start : ℕ) (bytes ends : List ℕ) → length (cut_from start bytes ends) ≡ length ends
length-cut start bytes [] = refl
length-cut start bytes (end ∷ ends) = ap suc (length-cut end bytes ends)

-- the next key, and what is left behind it
pub cut-left : (bytes ends : List ℕ) (start i : ℕ) → i < length ends → cut_from start bytes (drop i ends) ≡ drop i (cut bytes ends)
    → (take (get_or ends i 0 - start) (drop start bytes) ≡ get_or (cut bytes ends) i []) × (cut_from (get_or ends i 0) bytes (drop (i + 1) ends) ≡ drop (i + 1) (cut bytes ends))
cut-left bytes ends start i within so_far =
    let inside : i < length (cut bytes ends) = omega (arith, within, length-cut 0 bytes ends) in
    let whole : take (get_or ends i 0 - start) (drop start bytes) ∷ cut_from (get_or ends i 0) bytes (drop (i + 1) ends) ≡ get_or (cut bytes ends) i [] ∷ drop (i + 1) (cut bytes ends) =
    sym (ap (cut_from start bytes) (drop_more ends i 0 within)) ∙ so_far ∙ drop_more (cut bytes ends) i [] inside in
    (cc, cc)
