-- Keys that ascend, and the entries that are put one behind another.
use Rattle.std.proofs.Common.{◌≡◌, ◌<◌, ◌≤◌, ◌+◌, ◌-◌, ◌∙◌, Bool, ℕ, zero, suc, min, List, [], ◌∷◌, length, take, drop, get_or, true, false, refl, sym, ap, arith, add-one}
use Rattle.std.specs.Cmp.{IsTotalOrder}
use Rattle.std.specs.Prelude.{◌&&◌}
use Rattle.std.specs.List.{zip}
use Rattle.std.specs.Ordering.{is_lt, ordering_reverse}
use Rattle.std.specs.declared.cmp.Ordering.{Ordering}
use Rattle.std.specs.declared.cmp.Ordering.TheVariants.{Less, Equal, Greater}
use Rattle.std.proofs.lemmas.List.{drop_more}
use Rattle.std.proofs.lemmas.Slice.Zip.{get_or-zip, length-zip}
use Rattle.art_c_maps.specs.Entries.{keys_of, put}
use Rattle.art_c_maps.specs.Loads.{ascend}
use Rattle.art_c_maps.specs.Many.{cut, cut_from}
use Rattle.art_c_maps.proofs.ManyLemmas.{length-cut}

-- ---- keys that ascend
module _ {K : Type 0} (order : K → K → Ordering) where
  -- what is left of the test behind a pair of keys
  pub ascend-more : (keys : List K) (i : ℕ) (d : K) → i + 1 < length keys
      → ascend order (drop i keys) ≡ (is_lt (order (get_or keys i d) (get_or keys (i + 1) d)) && ascend order (drop (i + 1) keys))
  ascend-more keys i d within =
      let here = drop_more keys i d (omega (arith, within)) in let next = drop_more keys (i + 1) d within in
      ap (ascend order) (here ∙ ap (λ rest. get_or keys i d ∷ rest) next)
      ∙ ap (λ rest. is_lt (order (get_or keys i d) (get_or keys (i + 1) d)) && ascend order rest) (sym next)

  -- one key ascends
  pub ascend-last : (keys : List K) (i : ℕ) → length keys ≤ i + 1 → ascend order (drop i keys) ≡ true
  ascend-last [] zero within = refl
  ascend-last [] (suc i) within = refl
  ascend-last (key ∷ []) zero within = refl
  ascend-last (key ∷ next ∷ keys) zero within = absurd (omega (arith, within))
  ascend-last (key ∷ keys) (suc i) within = ascend-last keys i (omega (arith, within))

  pub ascend-below : (keys : List K) (i : ℕ) (d : K) → i + 1 < length keys → ascend order keys ≡ ascend order (drop i keys)
      → is_lt (order (get_or keys i d) (get_or keys (i + 1) d)) ≡ true → ascend order keys ≡ ascend order (drop (i + 1) keys)
  ascend-below keys i d within so_far is =
      so_far ∙ ascend-more keys i d within ∙ ap (λ below. below && ascend order (drop (i + 1) keys)) is

  pub ascend-not : (keys : List K) (i : ℕ) (d : K) → i + 1 < length keys → ascend order keys ≡ ascend order (drop i keys)
      → is_lt (order (get_or keys i d) (get_or keys (i + 1) d)) ≡ false → ascend order keys ≡ false
  ascend-not keys i d within so_far is =
      so_far ∙ ascend-more keys i d within ∙ ap (λ below. below && ascend order (drop (i + 1) keys)) is

-- ---- the keys of pairs
pub keys-zipped : {K V : Type 0} (keys : List K) (values : List V) (n : ℕ) → n ≡ min (length keys) (length values) → take n keys ≡ keys_of (zip keys values)
keys-zipped [] values n is = let none : n ≡ 0 = omega (arith, is) in rw none refl
keys-zipped (key ∷ keys) [] n is = let none : n ≡ 0 = omega (arith, is) in rw none refl
keys-zipped (key ∷ keys) (value ∷ values) n is =
    let one : n ≡ suc (min (length keys) (length values)) = omega (arith, is) in
    rw one (ap (λ all. key ∷ all) (keys-zipped keys values (min (length keys) (length values)) refl))

pub cut-take : (start : ℕ) (bytes ends : List ℕ) (n : ℕ) → cut_from start bytes (take n ends) ≡ take n (cut_from start bytes ends)
cut-take start bytes ends zero = refl
cut-take start bytes [] (suc n) = refl
cut-take start bytes (end ∷ ends) (suc n) = ap (λ all. take (end - start) (drop start bytes) ∷ all) (cut-take end bytes ends n)

-- the keys that a load looks at are those of its entries
pub keys-wanted : {V : Type 0} (bytes ends : List ℕ) (values : List V) (count : ℕ) (wanted : List ℕ) → count ≡ min (length ends) (length values) → wanted ≡ take count ends
    → cut bytes wanted ≡ keys_of (zip (cut bytes ends) values)
keys-wanted bytes ends values count wanted is taken =
    ap (cut bytes) taken ∙ cut-take 0 bytes ends count
    ∙ keys-zipped (cut bytes ends) values count (is ∙ ap (λ n. min n (length values)) (sym (length-cut 0 bytes ends)))

-- ---- entries that are put one behind another
is-below : (o : Ordering) (rest : Bool) → (is_lt o && rest) ≡ true → (o ≡ Less) × (rest ≡ true)
is-below Less rest both = (refl, both)
is-below Equal rest both = absurd (cc)
is-below Greater rest both = absurd (cc)

module _ {K : Type 0} (order : K → K → Ordering) where
  ascend-rest : (key : K) (keys : List K) → ascend order (key ∷ keys) ≡ true → ascend order keys ≡ true
  ascend-rest key [] ascends = refl
  ascend-rest key (next ∷ keys) ascends = (is-below (order key next) (ascend order (next ∷ keys)) ascends).1

module _ {K V : Type 0} (order : K → K → Ordering) (total : IsTotalOrder order) where
  -- the first key is below each later one
  first-below : (key : K) (pairs : List (K × V)) (i : ℕ) (d : K × V) → ascend order (key ∷ keys_of pairs) ≡ true → i < length pairs → order key (get_or pairs i d).0 ≡ Less
  first-below key [] i d ascends within = absurd (omega (arith, within))
  first-below key (pair ∷ pairs) zero d ascends within = (is-below (order key pair.0) (ascend order (pair.0 ∷ keys_of pairs)) ascends).0
  first-below key (pair ∷ pairs) (suc i) d ascends within =
      let both = is-below (order key pair.0) (ascend order (pair.0 ∷ keys_of pairs)) ascends in
      total.trans key pair.0 (get_or pairs i d).0 both.0 (first-below pair.0 pairs i d both.1 (omega (arith, within)))

  -- one more is put behind the first ones
  behind-put : (pairs : List (K × V)) (i : ℕ) (d : K × V) → ascend order (keys_of pairs) ≡ true → i < length pairs
      → put order (take i pairs) (get_or pairs i d).0 (get_or pairs i d).1 ≡ take (i + 1) pairs
  behind-put [] i d ascends within = absurd (omega (arith, within))
  behind-put (pair ∷ pairs) zero d ascends within = refl
  behind-put (pair ∷ pairs) (suc i) d ascends within =
      let key = (get_or pairs i d).0 in
      let more : order key pair.0 ≡ Greater = total.antisymm key pair.0 ∙ ap ordering_reverse (first-below pair.0 pairs i d ascends (omega (arith, within))) in
      rw (more, add-one) (ap (λ all. pair ∷ all) (behind-put pairs i d (ascend-rest order pair.0 (keys_of pairs) ascends) (omega (arith, within)) ∙ rw add-one refl))

  pub pair-put : (keys : List K) (values : List V) (i : ℕ) (d : K) (e : V) → ascend order (keys_of (zip keys values)) ≡ true → i < length keys → i < length values
      → put order (take i (zip keys values)) (get_or keys i d) (get_or values i e) ≡ take (i + 1) (zip keys values)
  pair-put keys values i d e ascends in_keys in_values =
      let pairs = zip keys values in
      let within : i < length pairs = omega (arith, length-zip keys values, in_keys, in_values) in
      ap (λ (pair : K × V). put order (take i pairs) pair.0 pair.1) (sym (get_or-zip keys values i (d, e) in_keys in_values)) ∙ behind-put pairs i (d, e) ascends within

-- a list without items
pub none-held : {X : Type 0} (xs : List X) → length xs ≡ 0 → xs ≡ []
none-held [] none = refl
none-held (x ∷ xs) none = absurd (omega (arith, none))
