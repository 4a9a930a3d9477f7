-- What a binary search finds in a list of entries in order.
use Rattle.std.proofs.Common.{◌≡◌, ◌∙◌, ℕ, ◌<◌, ◌≤◌, ◌+◌, ◌-◌, ◌^◌, List, length, take, drop, Result, Ok, Err, get_or, refl, sym, ap, subst, arith, ◌⊎◌, inl, inr}
use Rattle.std.proofs.lemmas.Cmp.{nat_list_cmp_total}
use Rattle.std.proofs.lemmas.List.{length-map, get_or-map, get_or-take, get_or-drop, length-take-le, length-drop}
use Rattle.std.proofs.lemmas.Map.Keys.{Less-from_sorted}
use Rattle.std.specs.List.Sorted.{IsPartitionPoint, IsNonDecreasingBy, IsBinarySearchResult, IsSearchInRange}
use Rattle.std.specs.Map.{keys_of}
use Rattle.std.specs.Ordering.{ordering_index, ordering_reverse}
use Rattle.std.specs.declared.cmp.Ordering.{Ordering}
use Rattle.std.specs.declared.cmp.Ordering.TheVariants.{Less, Equal, Greater}
use Rattle.art_bytes.specs.Text.{text_order}
use Rattle.art_keys.specs.Encoding.{SortedBy, Agrees}
use Rattle.art_keys.specs.EncodingLaws.{order_of_encodings}
use Rattle.art_pages.specs.Entries.{IsOrdered, AreKeys, IsPlaceOf, AllBelow, AllAbove}
use Rattle.art_pages.specs.Places.{IsSearchResult}

-- a query that is not above an entry is below those after it, and one that is not below an entry is above those before it
pub record Divides {K V : Type 0} (compare : K → Ordering) (entries : List (K × V)) : Type 0 where
  pub after : (i j : ℕ) (d : K × V) → i < j → j < length entries → (compare (get_or entries i d).0 ≡ Greater → ⊥) → compare (get_or entries j d).0 ≡ Less
  pub before : (i j : ℕ) (d : K × V) → i < j → j < length entries → (compare (get_or entries j d).0 ≡ Less → ⊥) → compare (get_or entries i d).0 ≡ Greater

-- at texts in order
abbrev turned : (x y : List ℕ) → text_order x y ≡ ordering_reverse (text_order y x)
turned x y = nat_list_cmp_total.antisymm x y

-- a query whose text is below or above that of a key is so itself
below_query : (o c : Ordering) → Agrees o c → o ≡ Less → c ≡ Less
below_query o c agrees is = subst (λ p. Agrees p c) is agrees

above_query : (o c : Ordering) → Agrees o c → o ≡ Greater → c ≡ Greater
above_query o c agrees is = subst (λ p. Agrees p c) is agrees

below_later : (q x y : List ℕ) (o c : Ordering) → text_order q x ≡ o → Agrees o c → (c ≡ Greater → ⊥) → text_order x y ≡ Less → text_order q y ≡ Less
below_later q x y Less c is agrees not less = nat_list_cmp_total.trans q x y is less
below_later q x y Equal c is agrees not less = nat_list_cmp_total.congr q x y is ∙ less
below_later q x y Greater c is agrees not less = absurd (not agrees)

above_earlier : (q x y : List ℕ) (o c : Ordering) → text_order q y ≡ o → Agrees o c → (c ≡ Less → ⊥) → text_order x y ≡ Less → text_order q x ≡ Greater
above_earlier q x y Less c is agrees not less = absurd (not agrees)
above_earlier q x y Equal c is agrees not less =
    turned q x ∙ ap ordering_reverse (nat_list_cmp_total.antisymm x q ∙ ap ordering_reverse (nat_list_cmp_total.congr q y x is ∙ turned y x ∙ ap ordering_reverse less))
above_earlier q x y Greater c is agrees not less =
    turned q x ∙ ap ordering_reverse (nat_list_cmp_total.trans x y q less (turned y q ∙ ap ordering_reverse is))

module _ {K V : Type 0} (cmp : K → K → Ordering) (is_key : K → Type 0) (encoded : K → List ℕ)
    (sorted : (x y : K) → is_key x → is_key y → SortedBy (cmp x y) (encoded x) (encoded y))
    (compare : K → Ordering) (text : List ℕ) (agrees : (x : K) → is_key x → length (encoded x) < 2 ^ 32 → Agrees (text_order text (encoded x)) (compare x)) where
  -- a query divides entries in order
  pub query_divides : (entries : List (K × V)) → IsOrdered cmp entries → AreKeys is_key encoded entries → Divides compare entries
  query_divides entries ordered keys = record {
    after = λ i j d before within not.
        let q = text_order text (encoded (get_or entries j d).0) in
        below_query q (compare (get_or entries j d).0) (at j d within)
        (below_later text (encoded (get_or entries i d).0) (encoded (get_or entries j d).0) (text_order text (encoded (get_or entries i d).0)) (compare (get_or entries i d).0) refl (at i d (omega (arith, before, within))) not (less i j d before within));
    before = λ i j d before within not.
        let q = text_order text (encoded (get_or entries i d).0) in
        above_query q (compare (get_or entries i d).0) (at i d (omega (arith, before, within)))
        (above_earlier text (encoded (get_or entries i d).0) (encoded (get_or entries j d).0) (text_order text (encoded (get_or entries j d).0)) (compare (get_or entries j d).0) refl (at j d within) not (less i j d before within));
  }
    where
      at : (i : ℕ) (d : K × V) → i < length entries → Agrees (text_order text (encoded (get_or entries i d).0)) (compare (get_or entries i d).0)
      at i d within = let indexable = keys i d within in agrees (get_or entries i d).0 indexable.0 indexable.1

      ascends : (i j : ℕ) (d : K × V) → i < j → j < length entries → cmp (get_or entries i d).0 (get_or entries j d).0 ≡ Less
      ascends i j d before within =
          rw (← get_or-map (λ (o : K × V). o.0) entries i d d.0 (omega (arith, before, within)), ← get_or-map (λ (o : K × V). o.0) entries j d d.0 within)
          (Less-from_sorted cmp (keys_of entries) i j d.0 ordered before (omega (arith, within, length-map entries (λ (o : K × V). o.0))))

      less : (i j : ℕ) (d : K × V) → i < j → j < length entries → text_order (encoded (get_or entries i d).0) (encoded (get_or entries j d).0) ≡ Less
      less i j d before within =
          let x = (get_or entries i d).0 in let y = (get_or entries j d).0 in
          sym (order_of_encodings (cmp x y) (encoded x) (encoded y) (sorted x y (keys i d (omega (arith, before, within))).0 (keys j d within).0))
          ∙ ascends i j d before within

unturned : (o p : Ordering) → ordering_reverse o ≡ p → o ≡ ordering_reverse p
unturned Less p is = ap ordering_reverse is
unturned Equal p is = ap ordering_reverse is
unturned Greater p is = ap ordering_reverse is

module _ {K V : Type 0} (compare : K → Ordering) (entries : List (K × V)) (divides : Divides compare entries) where
  abbrev index_of : ℕ → K × V → ℕ
  index_of i d = ordering_index (ordering_reverse (compare (get_or entries i d).0))

  rises : (a b : Ordering) → ((a ≡ Greater → ⊥) → b ≡ Less) → ordering_index (ordering_reverse a) ≤ ordering_index (ordering_reverse b)
  rises Greater b after = omega arith
  rises Less b after = let less : b ≡ Less = after (λ e. cc) in rw less (omega arith)
  rises Equal b after = let less : b ≡ Less = after (λ e. cc) in rw less (omega arith)

  non_decreasing : IsNonDecreasingBy (λ (o : K × V). ordering_index (ordering_reverse (compare o.0))) entries
  non_decreasing i j d low within = elim (apart i j low) [
    | inl same ↦ subst (λ k. index_of i d ≤ index_of k d) same (omega arith)
    | inr less ↦ rises (compare (get_or entries i d).0) (compare (get_or entries j d).0) (divides.after i j d less within)
  ]
    where
      apart : (i j : ℕ) → i ≤ j → (i ≡ j) ⊎ (i < j)
      apart i j low = grind arith

  module _ (i : ℕ) (within : i < length entries) (equal : (d : K × V) → compare (get_or entries i d).0 ≡ Equal) where
    low-at : AllBelow compare (take i entries)
    low-at k d inside =
        let short : k < i = omega (arith, inside, length-take-le i entries (omega (arith, within))) in
        subst (λ (o : K × V). compare o.0 ≡ Greater) (sym (get_or-take i entries k d short))
        (divides.before k i d short within (λ less. let same = equal d in absurd (cc)))

    high-at : AllAbove compare (drop (i + 1) entries)
    high-at k d inside =
        let there : (i + 1) + k < length entries = omega (arith, inside, length-drop (i + 1) entries) in
        subst (λ (o : K × V). compare o.0 ≡ Less) (sym (get_or-drop (i + 1) entries k d))
        (divides.after i ((i + 1) + k) d (omega arith) there (λ more. let same = equal d in absurd (cc)))

  pub placed : (r : Result ℕ ℕ) → IsSearchInRange r (length entries) → IsBinarySearchResult (λ (o : K × V). ordering_reverse (compare o.0)) entries r → IsPlaceOf compare entries r
  placed (Ok i) within is = (within, equal, low-at i within equal, high-at i within equal)
    where
      equal : (d : K × V) → compare (get_or entries i d).0 ≡ Equal
      equal d = unturned (compare (get_or entries i d).0) Equal (is d)
  placed (Err i) fits is = (fits, low, high)
    where
      point : IsPartitionPoint (λ (o : K × V). ordering_reverse (compare o.0) ≡ Less) (λ (o : K × V). ordering_reverse (compare o.0) ≡ Greater) entries i
      point = is non_decreasing

      low : AllBelow compare (take i entries)
      low k d inside =
          let short : k < i = omega (arith, inside, length-take-le i entries fits) in
          subst (λ (o : K × V). compare o.0 ≡ Greater) (sym (get_or-take i entries k d short))
          (unturned (compare (get_or entries k d).0) Less (point.0 k d (omega arith) short))

      high : AllAbove compare (drop i entries)
      high k d inside =
          let there : i + k < length entries = omega (arith, inside, length-drop i entries) in
          subst (λ (o : K × V). compare o.0 ≡ Less) (sym (get_or-drop i entries k d))
          (unturned (compare (get_or entries (i + k) d).0) Greater (point.1 (i + k) d (omega arith) there))

  -- what the entries beside an index say is enough
  pub beside-placed : (r : Result ℕ ℕ) → IsSearchResult compare entries r → IsPlaceOf compare entries r
  beside-placed (Ok i) beside = (beside.0, beside.1, low-at i beside.0 beside.1, high-at i beside.0 beside.1)
  beside-placed (Err i) beside = (beside.0, low, high)
    where
      low : AllBelow compare (take i entries)
      low k d inside =
          let short : k < i = omega (arith, inside, length-take-le i entries beside.0) in
          subst (λ (o : K × V). compare o.0 ≡ Greater) (sym (get_or-take i entries k d short)) (at_last k d short (apart k i short))
        where
          apart : (k i : ℕ) → k < i → (k ≡ i - 1) ⊎ (k < i - 1)
          apart k i short = grind arith

          at_last : (k : ℕ) (d : K × V) → k < i → (k ≡ i - 1) ⊎ (k < i - 1) → compare (get_or entries k d).0 ≡ Greater
          at_last k d short (inl last) = subst (λ n. compare (get_or entries n d).0 ≡ Greater) (sym last) (beside.1 (omega (arith, short)) d)
          at_last k d short (inr before) =
              divides.before k (i - 1) d before (omega (arith, short, beside.0)) (λ less. let more = beside.1 (omega (arith, short)) d in absurd (cc))

      high : AllAbove compare (drop i entries)
      high k d inside =
          let there : i + k < length entries = omega (arith, inside, length-drop i entries) in
          subst (λ (o : K × V). compare o.0 ≡ Less) (sym (get_or-drop i entries k d)) (at_first k d there (apart k))
        where
          apart : (k : ℕ) → (k ≡ 0) ⊎ (0 < k)
          apart k = grind arith

          at_first : (k : ℕ) (d : K × V) → i + k < length entries → (k ≡ 0) ⊎ (0 < k) → compare (get_or entries (i + k) d).0 ≡ Less
          at_first k d there (inl none) =
              let same : i + k ≡ i = omega arith in
              subst (λ n. compare (get_or entries n d).0 ≡ Less) (sym same) (beside.2 (omega arith) d)
          at_first k d there (inr some) =
              divides.after i (i + k) d (omega arith) there (λ more. let less = beside.2 (omega arith) d in absurd (cc))
