-- A walk along two lists of keys that ascend.
use Rattle.std.proofs.Common.{◌≡◌, ◌∙◌, Bool, true, false, not, cond, List, [], ◌∷◌, filter, refl, sym, ap}
use Rattle.std.proofs.lemmas.List.Elements.{filter_agree}
use Rattle.std.specs.Cmp.{IsTotalOrder}
use Rattle.std.specs.List.{AllByRecursion}
use Rattle.std.specs.List.Sorted.{IsStrictlySortedBy}
use Rattle.std.specs.Ordering.{match_ordering}
use Rattle.std.specs.Set.{sorted_merge, merge_step}
use Rattle.std.specs.declared.cmp.Ordering.{Ordering}
use Rattle.std.specs.declared.cmp.Ordering.TheVariants.{Less, Equal, Greater}
use Rattle.art_set.specs.KeyLists.{contains_by, intersection, difference}
use Rattle.art_set.specs.Walks.{walk, walk_from}
use Rattle.art_set.proofs.OrderedKeys.{Above, rest-above, rest-sorted, lacks, turned-back, all-above, above-equal, found-behind, found-first}

filter-same : {X : Type 0} (p q : X → Bool) (xs : List X) → AllByRecursion (λ x. p x ≡ q x) xs → filter p xs ≡ filter q xs
filter-same p q [] same = refl
filter-same p q (x ∷ xs) same =
    ap (λ t. cond t (x ∷ filter p xs) (filter p xs)) same.0 ∙ ap (λ rest. cond (q x) (x ∷ rest) rest) (filter-same p q xs same.1)

module _ {K : Type 0} (cmp : K → K → Ordering) where
  merged-with-none : (both : Bool) (keys : List K) → sorted_merge cmp both keys [] ≡ keys
  merged-with-none both [] = refl
  merged-with-none both (key ∷ keys) = refl

  -- a walk that takes the keys of either list alone merges them
  merge-from : (both : Bool) (key : K) (keys : List K) → ((others : List K) → walk cmp true both true keys others ≡ sorted_merge cmp both keys others)
      → (others : List K) → walk_from cmp true both true key (walk cmp true both true keys) others ≡ merge_step cmp both key keys (sorted_merge cmp both keys) others
  merge-from both key keys rest [] = ap (λ l. key ∷ l) (rest [] ∙ merged-with-none both keys)
  merge-from both key keys rest (other ∷ others) = by_order (merge-from both key keys rest others) (cmp key other)
    where
      by_order : walk_from cmp true both true key (walk cmp true both true keys) others ≡ merge_step cmp both key keys (sorted_merge cmp both keys) others
          → (o : Ordering)
          → match_ordering o (key ∷ walk cmp true both true keys (other ∷ others)) (cond both (key ∷ walk cmp true both true keys others) (walk cmp true both true keys others))
          (other ∷ walk_from cmp true both true key (walk cmp true both true keys) others)
          ≡ match_ordering o (key ∷ sorted_merge cmp both keys (other ∷ others)) (cond both (key ∷ sorted_merge cmp both keys others) (sorted_merge cmp both keys others))
          (other ∷ merge_step cmp both key keys (sorted_merge cmp both keys) others)
      by_order further Less = ap (λ l. key ∷ l) (rest (other ∷ others))
      by_order further Equal = ap (λ l. cond both (key ∷ l) l) (rest others)
      by_order further Greater = ap (λ l. other ∷ l) further

  pub walk-merges : (both : Bool) (keys others : List K) → walk cmp true both true keys others ≡ sorted_merge cmp both keys others
  walk-merges both [] others = refl
  walk-merges both (key ∷ keys) others = merge-from both key keys (walk-merges both keys) others

  -- nothing is taken of the first list where nothing is left of the second
  pub first-untaken : (both second : Bool) (keys : List K) → walk cmp false both second keys [] ≡ []
  first-untaken both true [] = refl
  first-untaken both false [] = refl
  first-untaken both second (key ∷ keys) = first-untaken both second keys

  -- a walk that takes no key of the second list alone is a choice among those of the first
  module _ (total : IsTotalOrder cmp) (first both : Bool) where
    abbrev chosen : List K → K → Bool
    chosen others key = cond (contains_by (cmp key) others) both first

    -- the choice is the same without a key below
    agree : (other : K) (others keys : List K) → Above cmp other keys → AllByRecursion (λ one. chosen others one ≡ chosen (other ∷ others) one) keys
    agree other others [] above = tt
    agree other others (one ∷ keys) above = (ap (λ t. cond t both first) (sym (found-behind cmp total other one others above.0)), agree other others keys above.1)

    choice-from : (key : K) (keys : List K) → ((others : List K) → IsStrictlySortedBy cmp others → walk cmp first both false keys others ≡ filter (chosen others) keys)
        → (others : List K) → IsStrictlySortedBy cmp (key ∷ keys) → IsStrictlySortedBy cmp others
        → walk_from cmp first both false key (walk cmp first both false keys) others ≡ filter (chosen others) (key ∷ keys)
    choice-from key keys rest [] sorted others_sorted = ap (λ all. cond first (key ∷ all) all) (rest [] others_sorted)
    choice-from key keys rest (other ∷ others) sorted others_sorted =
        by_order (choice-from key keys rest others sorted (rest-sorted cmp other others others_sorted)) (cmp key other) refl
      where
        taken : Bool → List K
        taken t = cond (cond t both first) (key ∷ filter (chosen (other ∷ others)) keys) (filter (chosen (other ∷ others)) keys)

        by_order : walk_from cmp first both false key (walk cmp first both false keys) others ≡ filter (chosen others) (key ∷ keys)
            → (o : Ordering) → cmp key other ≡ o
            → match_ordering o (cond first (key ∷ walk cmp first both false keys (other ∷ others)) (walk cmp first both false keys (other ∷ others)))
            (cond both (key ∷ walk cmp first both false keys others) (walk cmp first both false keys others))
            (walk_from cmp first both false key (walk cmp first both false keys) others)
            ≡ filter (chosen (other ∷ others)) (key ∷ keys)
        by_order further Less is =
            ap (λ all. cond first (key ∷ all) all) (rest (other ∷ others) others_sorted)
            ∙ ap taken (sym (lacks cmp key (other ∷ others) (all-above cmp total key other others is others_sorted)))
        by_order further Equal is =
            ap (λ all. cond both (key ∷ all) all)
            (rest others (rest-sorted cmp other others others_sorted)
            ∙ filter-same (chosen others) (chosen (other ∷ others)) keys (agree other others keys (above-equal cmp total key other keys is (rest-above cmp key keys sorted))))
            ∙ ap taken (sym (found-first cmp total key other others is))
        by_order further Greater is =
            further
            ∙ filter-same (chosen others) (chosen (other ∷ others)) (key ∷ keys)
            (agree other others (key ∷ keys) (all-above cmp total other key keys (turned-back cmp total key other is) sorted))

    walk-chooses : (keys others : List K) → IsStrictlySortedBy cmp keys → IsStrictlySortedBy cmp others → walk cmp first both false keys others ≡ filter (chosen others) keys
    walk-chooses [] others sorted others_sorted = refl
    walk-chooses (key ∷ keys) others sorted others_sorted =
        choice-from key keys (λ others also. walk-chooses keys others (rest-sorted cmp key keys sorted) also) others sorted others_sorted

  as-it-is : (t : Bool) → cond t true false ≡ t
  as-it-is true = refl
  as-it-is false = refl

  as-not : (t : Bool) → cond t false true ≡ not t
  as-not true = refl
  as-not false = refl

  module _ (total : IsTotalOrder cmp) (keys others : List K) (sorted : IsStrictlySortedBy cmp keys) (others_sorted : IsStrictlySortedBy cmp others) where
    pub walk-intersects : walk cmp false true false keys others ≡ intersection cmp keys others
    walk-intersects =
        walk-chooses total false true keys others sorted others_sorted
        ∙ filter_agree (chosen total false true others) (λ key. contains_by (cmp key) others) (λ key. as-it-is (contains_by (cmp key) others)) keys

    pub walk-differs : walk cmp true false false keys others ≡ difference cmp keys others
    walk-differs =
        walk-chooses total true false keys others sorted others_sorted
        ∙ filter_agree (chosen total true false others) (λ key. not (contains_by (cmp key) others)) (λ key. as-not (contains_by (cmp key) others)) keys
