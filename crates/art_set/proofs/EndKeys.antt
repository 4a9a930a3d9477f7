-- Keys that are found, each of a list and those at its ends: no key is beyond these where the keys ascend.
use Rattle.std.proofs.Common.{◌≡◌, ◌∙◌, Bool, true, false, ◌||◌, List, [], ◌∷◌, ◌++◌, All, Option, Some, None, refl, sym, ap, subst}
use Rattle.std.proofs.lemmas.Cmp.{tied_itself}
use Rattle.std.proofs.lemmas.List.Elements.{All-nil, All-cons, All-head, All-tail, All-weaker}
use Rattle.std.specs.Cmp.{IsTotalOrder}
use Rattle.std.specs.List.Sorted.{IsStrictlySortedBy}
use Rattle.std.specs.Option.{IfNone, IfSome, MatchOption}
use Rattle.std.specs.Ordering.{is_eq, is_gt, is_lt, ordering_reverse}
use Rattle.std.specs.declared.cmp.Ordering.{Ordering}
use Rattle.std.specs.declared.cmp.Ordering.TheVariants.{Less, Equal, Greater}
use Rattle.art_set.specs.KeyLists.{IsLowerKeyBound, IsUpperKeyBound, contains_by}
use Rattle.art_set.proofs.OrderedKeys.{Above, rest-above, rest-sorted, found-first}

or-true : (s t : Bool) → t ≡ true → (s || t) ≡ true
or-true true t is = refl
or-true false t is = is

module _ {K : Type 0} (cmp : K → K → Ordering) (total : IsTotalOrder cmp) where
  same-to-equal : (key one other : K) → cmp other one ≡ Equal → cmp key other ≡ cmp key one
  same-to-equal key one other equal =
      total.antisymm key other ∙ ap ordering_reverse (total.congr other one key equal) ∙ sym (total.antisymm key one)

  -- where no key is beyond one, none that is found is
  pub none-found-beyond : (beyond : Ordering → Bool) (key : K) (keys : List K) → All (λ one. beyond (cmp key one) ≡ false) keys
      → (other : K) → contains_by (cmp other) keys ≡ true → beyond (cmp key other) ≡ false
  none-found-beyond beyond key [] all other has = absurd (cc)
  none-found-beyond beyond key (one ∷ keys) all other has =
      by_order (cmp other one) refl has (none-found-beyond beyond key keys (All-tail (λ one. beyond (cmp key one) ≡ false) one keys all) other)
    where
      by_order : (o : Ordering) → cmp other one ≡ o → (is_eq o || contains_by (cmp other) keys) ≡ true
          → (contains_by (cmp other) keys ≡ true → beyond (cmp key other) ≡ false) → beyond (cmp key other) ≡ false
      by_order Less is has later = later has
      by_order Equal is has later = ap beyond (same-to-equal key one other is) ∙ All-head (λ one. beyond (cmp key one) ≡ false) one keys all
      by_order Greater is has later = later has

  -- each key is found
  pub all-found : (keys : List K) → All (λ key. contains_by (cmp key) keys ≡ true) keys
  all-found [] = All-nil (λ key. contains_by (cmp key) [] ≡ true)
  all-found (key ∷ keys) =
      All-cons (λ one. contains_by (cmp one) (key ∷ keys) ≡ true) key keys (found-first cmp total key key keys (tied_itself total key))
      (All-weaker (λ one. contains_by (cmp one) keys ≡ true) (λ one. contains_by (cmp one) (key ∷ keys) ≡ true)
      (λ one has. or-true (is_eq (cmp one key)) (contains_by (cmp one) keys) has) keys (all-found keys))

  module _ (keys rest : List K) (key : K) where
    -- the first
    module _ (is : keys ≡ key ∷ rest) where
      pub first-there : contains_by (cmp key) keys ≡ true
      first-there = ap (contains_by (cmp key)) is ∙ found-first cmp total key key rest (tied_itself total key)

      pub first-lowest : IsStrictlySortedBy cmp keys → All (λ other. is_gt (cmp key other) ≡ false) keys
      first-lowest sorted =
          subst (All (λ other. is_gt (cmp key other) ≡ false)) (sym is)
          (All-cons (λ other. is_gt (cmp key other) ≡ false) key rest (ap is_gt (tied_itself total key))
          (none-below rest (rest-above cmp key rest (subst (IsStrictlySortedBy cmp) is sorted))))
        where
          none-below : (others : List K) → Above cmp key others → All (λ other. is_gt (cmp key other) ≡ false) others
          none-below [] above = All-nil (λ other. is_gt (cmp key other) ≡ false)
          none-below (other ∷ others) above = All-cons (λ other. is_gt (cmp key other) ≡ false) other others (ap is_gt above.0) (none-below others above.1)

    -- the last
    module _ (is : keys ≡ rest ++ key ∷ []) where
      pub last-there : contains_by (cmp key) keys ≡ true
      last-there = ap (contains_by (cmp key)) is ∙ found rest
        where
          found : (others : List K) → contains_by (cmp key) (others ++ key ∷ []) ≡ true
          found [] = found-first cmp total key key [] (tied_itself total key)
          found (other ∷ others) = or-true (is_eq (cmp key other)) (contains_by (cmp key) (others ++ key ∷ [])) (found others)

      pub last-highest : IsStrictlySortedBy cmp keys → All (λ other. is_lt (cmp key other) ≡ false) keys
      last-highest sorted =
          subst (All (λ other. is_lt (cmp key other) ≡ false)) (sym is) (none-above rest (subst (IsStrictlySortedBy cmp) is sorted))
        where
          below-last : (other : K) (others : List K) → Above cmp other (others ++ key ∷ []) → cmp other key ≡ Less
          below-last other [] above = above.0
          below-last other (one ∷ others) above = below-last other others above.1

          none-above : (others : List K) → IsStrictlySortedBy cmp (others ++ key ∷ []) → All (λ other. is_lt (cmp key other) ≡ false) (others ++ key ∷ [])
          none-above [] sorted = All-cons (λ other. is_lt (cmp key other) ≡ false) key [] (ap is_lt (tied_itself total key)) (All-nil (λ other. is_lt (cmp key other) ≡ false))
          none-above (other ∷ others) sorted =
              All-cons (λ other. is_lt (cmp key other) ≡ false) other (others ++ key ∷ [])
              (ap is_lt (total.antisymm key other ∙ ap ordering_reverse (below-last other others (rest-above cmp other (others ++ key ∷ []) sorted))))
              (none-above others (rest-sorted cmp other (others ++ key ∷ []) sorted))

-- what an iterator yields of keys that ascend, first and last
module _ {K A : Type 0} (cmp : K → K → Ordering) (total : IsTotalOrder cmp) (seen : A → K) (list keys rest : List K) (is : list ≡ keys) (sorted : IsStrictlySortedBy cmp keys) where
  pub first-says : (result : Option A) → MatchOption result ((list ≡ []) × (rest ≡ [])) (λ key. list ≡ seen key ∷ rest)
      → IfSome result (λ key. contains_by (cmp (seen key)) keys ≡ true) × IfSome result (λ key. IsLowerKeyBound cmp keys (seen key))
      × IfSome result (λ key. All (λ other. is_gt (cmp (seen key) other) ≡ false) keys) × IfNone result (keys ≡ [])
  first-says None none = (tt, tt, tt, sym is ∙ none.0)
  first-says (Some key) first =
      let lowest = first-lowest cmp total keys rest (seen key) (sym is ∙ first) sorted in
      (first-there cmp total keys rest (seen key) (sym is ∙ first), none-found-beyond cmp total is_gt (seen key) keys lowest, lowest, tt)

  pub last-says : (result : Option A) → MatchOption result ((list ≡ []) × (rest ≡ [])) (λ key. list ≡ rest ++ seen key ∷ [])
      → IfSome result (λ key. contains_by (cmp (seen key)) keys ≡ true) × IfSome result (λ key. IsUpperKeyBound cmp keys (seen key))
      × IfSome result (λ key. All (λ other. is_lt (cmp (seen key) other) ≡ false) keys) × IfNone result (keys ≡ [])
  last-says None none = (tt, tt, tt, sym is ∙ none.0)
  last-says (Some key) last =
      let highest = last-highest cmp total keys rest (seen key) (sym is ∙ last) sorted in
      (last-there cmp total keys rest (seen key) (sym is ∙ last), none-found-beyond cmp total is_lt (seen key) keys highest, highest, tt)
