-- Keys that ascend: which of them a key is equal to, where one is inserted, and how many others have all of them.
use Rattle.std.proofs.Common.{◌≡◌, ◌∙◌, suc, ◌+◌, ◌≤◌, Bool, true, false, not, cond, ◌||◌, List, [], ◌∷◌, length, All, refl, sym, ap, arith}
use Rattle.std.proofs.lemmas.List.Elements.{All-nil, All-cons, All-head, All-tail}
use Rattle.std.specs.BTreeSet.{insert_key}
use Rattle.std.specs.Cmp.{IsTotalOrder}
use Rattle.std.specs.List.{AllByRecursion}
use Rattle.std.specs.List.Sorted.{IsStrictlySortedBy}
use Rattle.std.specs.Ordering.{is_eq, match_ordering, ordering_reverse}
use Rattle.std.specs.declared.cmp.Ordering.{Ordering}
use Rattle.std.specs.declared.cmp.Ordering.TheVariants.{Less, Equal, Greater}
use Rattle.art_set.specs.KeyLists.{contains_by}

module _ {K : Type 0} (cmp : K → K → Ordering) where
  -- each of these keys is above one
  abbrev pub Above : K → List K → Type 0
  Above key keys = AllByRecursion (λ other. cmp key other ≡ Less) keys

  pub rest-above : (key : K) (keys : List K) → IsStrictlySortedBy cmp (key ∷ keys) → Above key keys
  unfolding IsStrictlySortedBy
  rest-above key keys sorted = sorted.0

  pub rest-sorted : (key : K) (keys : List K) → IsStrictlySortedBy cmp (key ∷ keys) → IsStrictlySortedBy cmp keys
  unfolding IsStrictlySortedBy
  rest-sorted key keys sorted = sorted.1

  -- none of the keys above one is equal to it
  pub lacks : (key : K) (keys : List K) → Above key keys → contains_by (cmp key) keys ≡ false
  lacks key [] above = refl
  lacks key (other ∷ keys) above = ap (λ o. is_eq o || contains_by (cmp key) keys) above.0 ∙ lacks key keys above.1

  module _ (total : IsTotalOrder cmp) where
    turned : (a b : K) → cmp a b ≡ Less → cmp b a ≡ Greater
    turned a b less = total.antisymm b a ∙ ap ordering_reverse less

    pub turned-back : (a b : K) → cmp a b ≡ Greater → cmp b a ≡ Less
    turned-back a b greater = total.antisymm b a ∙ ap ordering_reverse greater

    climbs : (low key : K) (keys : List K) → cmp low key ≡ Less → Above key keys → Above low keys
    climbs low key [] less above = tt
    climbs low key (other ∷ keys) less above = (total.trans low key other less above.0, climbs low key keys less above.1)

    pub all-above : (low key : K) (keys : List K) → cmp low key ≡ Less → IsStrictlySortedBy cmp (key ∷ keys) → Above low (key ∷ keys)
    all-above low key keys less sorted = (less, climbs low key keys less (rest-above key keys sorted))

    -- keys above an equal one
    pub above-equal : (key other : K) (keys : List K) → cmp key other ≡ Equal → Above key keys → Above other keys
    above-equal key other [] equal above = tt
    above-equal key other (one ∷ keys) equal above = (sym (total.congr key other one equal) ∙ above.0, above-equal key other keys equal above.1)

    -- a key above another is found where it was, with the other before
    pub found-behind : (other key : K) (others : List K) → cmp other key ≡ Less → contains_by (cmp key) (other ∷ others) ≡ contains_by (cmp key) others
    found-behind other key others less = ap (λ o. is_eq o || contains_by (cmp key) others) (turned other key less)

    pub found-first : (key other : K) (others : List K) → cmp key other ≡ Equal → contains_by (cmp key) (other ∷ others) ≡ true
    found-first key other others equal = ap (λ o. is_eq o || contains_by (cmp key) others) equal

    -- a key that is there is not inserted
    pub inserted-there : (key : K) (keys : List K) → IsStrictlySortedBy cmp keys → contains_by (cmp key) keys ≡ true → insert_key cmp keys key ≡ keys
    inserted-there key [] sorted has = absurd (cc)
    inserted-there key (other ∷ keys) sorted has = by_order (cmp key other) refl has (λ later. inserted-there key keys (rest-sorted other keys sorted) later)
      where
        none : cmp key other ≡ Less → contains_by (cmp key) (other ∷ keys) ≡ false
        none less = lacks key (other ∷ keys) (all-above key other keys less sorted)

        by_order : (o : Ordering) → cmp key other ≡ o → (is_eq o || contains_by (cmp key) keys) ≡ true
            → (contains_by (cmp key) keys ≡ true → insert_key cmp keys key ≡ keys)
            → match_ordering o (key ∷ other ∷ keys) (other ∷ keys) (other ∷ insert_key cmp keys key) ≡ other ∷ keys
        by_order Less is has later = let wrong : true ≡ false = sym has ∙ sym (ap (λ o. is_eq o || contains_by (cmp key) keys) is) ∙ none is in absurd (cc)
        by_order Equal is has later = refl
        by_order Greater is has later = ap (λ l. other ∷ l) (later has)

    -- no list has fewer keys than one all of whose keys it has
    subset-from : (key : K) (keys : List K) → ((others : List K) → IsStrictlySortedBy cmp others → All (λ one. contains_by (cmp one) others ≡ true) keys → length keys ≤ length others)
        → (others : List K) → IsStrictlySortedBy cmp (key ∷ keys) → IsStrictlySortedBy cmp others
        → All (λ one. contains_by (cmp one) others ≡ true) (key ∷ keys) → length (key ∷ keys) ≤ length others
    subset-from key keys rest [] sorted others_sorted all = let has = All-head (λ one. contains_by (cmp one) [] ≡ true) key keys all in absurd (cc)
    subset-from key keys rest (other ∷ others) sorted others_sorted all =
        by_order (λ each. subset-from key keys rest others sorted (rest-sorted other others others_sorted) each) (cmp key other) refl
      where
        here : contains_by (cmp key) (other ∷ others) ≡ true
        here = All-head (λ one. contains_by (cmp one) (other ∷ others) ≡ true) key keys all

        others_rest : IsStrictlySortedBy cmp others
        others_rest = rest-sorted other others others_sorted

        -- without a key below all
        without : (list : List K) → Above other list → All (λ one. contains_by (cmp one) (other ∷ others) ≡ true) list → All (λ one. contains_by (cmp one) others ≡ true) list
        without [] above all = All-nil (λ one. contains_by (cmp one) others ≡ true)
        without (one ∷ list) above all =
            All-cons (λ one. contains_by (cmp one) others ≡ true) one list
            (sym (found-behind other one others above.0) ∙ All-head (λ one. contains_by (cmp one) (other ∷ others) ≡ true) one list all)
            (without list above.1 (All-tail (λ one. contains_by (cmp one) (other ∷ others) ≡ true) one list all))

        by_order : (All (λ one. contains_by (cmp one) others ≡ true) (key ∷ keys) → length (key ∷ keys) ≤ length others)
            → (o : Ordering) → cmp key other ≡ o → length (key ∷ keys) ≤ length (other ∷ others)
        by_order further Less is =
            let wrong : true ≡ false = sym here ∙ lacks key (other ∷ others) (all-above key other others is others_sorted) in absurd (cc)
        by_order further Equal is =
            let later = rest others others_rest
            (without keys (above-equal key other keys is (rest-above key keys sorted)) (All-tail (λ one. contains_by (cmp one) (other ∷ others) ≡ true) key keys all)) in
            omega (arith, later)
        by_order further Greater is =
            let later = further (without (key ∷ keys) (all-above other key keys (turned-back key other is) sorted) all) in
            omega (arith, later)

    pub subset-length : (keys others : List K) → IsStrictlySortedBy cmp keys → IsStrictlySortedBy cmp others → All (λ one. contains_by (cmp one) others ≡ true) keys → length keys ≤ length others
    subset-length [] others sorted others_sorted all = omega arith
    subset-length (key ∷ keys) others sorted others_sorted all =
        subset-from key keys (λ others also. subset-length keys others (rest-sorted key keys sorted) also) others sorted others_sorted all

  -- a key that is not there makes one more
  pub inserted-anew : (key : K) (keys : List K) → contains_by (cmp key) keys ≡ false → length (insert_key cmp keys key) ≡ length keys + 1
  inserted-anew key [] none = omega arith
  inserted-anew key (other ∷ keys) none = by_order (cmp key other) none (λ later. inserted-anew key keys later)
    where
      by_order : (o : Ordering) → (is_eq o || contains_by (cmp key) keys) ≡ false → (contains_by (cmp key) keys ≡ false → length (insert_key cmp keys key) ≡ length keys + 1)
          → length (match_ordering o (key ∷ other ∷ keys) (other ∷ keys) (other ∷ insert_key cmp keys key)) ≡ suc (length keys) + 1
      by_order Less none later = omega arith
      by_order Equal none later = absurd (cc)
      by_order Greater none later = let longer = later none in omega arith

  module _ (total : IsTotalOrder cmp) where
    same-either-way : (a b : K) → is_eq (cmp a b) ≡ is_eq (cmp b a)
    same-either-way a b = ap is_eq (total.antisymm a b) ∙ same (cmp b a)
      where
        same : (o : Ordering) → is_eq (ordering_reverse o) ≡ is_eq o
        same Less = refl
        same Equal = refl
        same Greater = refl

    -- where no key is among others, none of those is among the keys
    apart-first : (s t : Bool) → (s || t) ≡ false → (s ≡ false) × (t ≡ false)
    apart-first true t none = absurd (cc)
    apart-first false t none = (refl, none)

    apart-from : (other : K) (others keys : List K) → All (λ key. contains_by (cmp key) (other ∷ others) ≡ false) keys
        → (contains_by (cmp other) keys ≡ false) × All (λ key. contains_by (cmp key) others ≡ false) keys
    apart-from other others [] none = (refl, All-nil (λ key. contains_by (cmp key) others ≡ false))
    apart-from other others (key ∷ keys) none =
        let first = apart-first (is_eq (cmp key other)) (contains_by (cmp key) others) (All-head (λ key. contains_by (cmp key) (other ∷ others) ≡ false) key keys none) in
        let later = apart-from other others keys (All-tail (λ key. contains_by (cmp key) (other ∷ others) ≡ false) key keys none) in (
          ap (λ t. t || contains_by (cmp other) keys) (same-either-way other key ∙ first.0) ∙ later.0,
          All-cons (λ key. contains_by (cmp key) others ≡ false) key keys first.1 later.1,
        )

    pub apart-either-way : (keys others : List K) → All (λ key. contains_by (cmp key) others ≡ false) keys → All (λ other. contains_by (cmp other) keys ≡ false) others
    apart-either-way keys [] none = All-nil (λ other. contains_by (cmp other) keys ≡ false)
    apart-either-way keys (other ∷ others) none =
        let both = apart-from other others keys none in
        All-cons (λ other. contains_by (cmp other) keys ≡ false) other others both.0 (apart-either-way keys others both.1)

    -- how many keys there are with one inserted
    pub length-inserted : (key : K) (keys new : List K) → IsStrictlySortedBy cmp keys → new ≡ insert_key cmp keys key → (added : Bool) → added ≡ not (contains_by (cmp key) keys)
        → length new ≡ length keys + cond added 1 0
    length-inserted key keys new sorted is added test = by_test (contains_by (cmp key) keys) refl added test
      where
        by_test : (t : Bool) → contains_by (cmp key) keys ≡ t → (added : Bool) → added ≡ not t → length new ≡ length keys + cond added 1 0
        by_test true has true wrong = absurd (cc)
        by_test true has false so = let same = ap length (is ∙ inserted-there total key keys sorted has) in omega (arith, same)
        by_test false none true so = ap length is ∙ inserted-anew key keys none
        by_test false none false wrong = absurd (cc)

    pub same-inserted : (key : K) (keys new : List K) → IsStrictlySortedBy cmp keys → new ≡ insert_key cmp keys key → false ≡ not (contains_by (cmp key) keys) → new ≡ keys
    same-inserted key keys new sorted is test = is ∙ inserted-there total key keys sorted (by_test (contains_by (cmp key) keys) test)
      where
        by_test : (t : Bool) → false ≡ not t → t ≡ true
        by_test true so = refl
        by_test false wrong = absurd (cc)
