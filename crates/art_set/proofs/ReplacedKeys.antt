-- A key that takes the place of an equal one, or is added.
use Rattle.std.proofs.Common.{◌≡◌, ◌∙◌, suc, Bool, true, false, cond, ◌||◌, List, [], ◌∷◌, length, Some, is_some, refl, sym, ap}
use Rattle.std.specs.BTreeMap.{is_at}
use Rattle.std.specs.BTreeSet.{insert_key, replace_key}
use Rattle.std.specs.Cmp.{IsTotalOrder}
use Rattle.std.specs.List.Sorted.{IsStrictlySortedBy}
use Rattle.std.specs.Map.{keys_of, lookup_key, set_key}
use Rattle.std.specs.Ordering.{is_eq, match_ordering}
use Rattle.std.specs.declared.cmp.Ordering.{Ordering}
use Rattle.std.specs.declared.cmp.Ordering.TheVariants.{Less, Equal, Greater}
use Rattle.art_set.specs.KeyLists.{contains_by}
use Rattle.art_set.proofs.ListLemmas.{key-found, some-found}
use Rattle.art_set.proofs.OrderedKeys.{all-above, lacks, rest-sorted}

module _ {K : Type 0} (cmp : K → K → Ordering) (key : K) where
  -- a key that is new is added
  pub replaced-anew : (keys : List K) → contains_by (cmp key) keys ≡ false → insert_key cmp keys key ≡ replace_key cmp keys key
  replaced-anew [] none = refl
  replaced-anew (other ∷ keys) none = by_order (cmp key other) none (replaced-anew keys)
    where
      by_order : (o : Ordering) → (is_eq o || contains_by (cmp key) keys) ≡ false → (contains_by (cmp key) keys ≡ false → insert_key cmp keys key ≡ replace_key cmp keys key)
          → match_ordering o (key ∷ other ∷ keys) (other ∷ keys) (other ∷ insert_key cmp keys key)
          ≡ match_ordering o (key ∷ other ∷ keys) (key ∷ keys) (other ∷ replace_key cmp keys key)
      by_order Less none later = refl
      by_order Equal none later = absurd (cc)
      by_order Greater none later = ap (λ l. other ∷ l) (later none)

  module _ {V : Type 0} where
    pub length-replaced : (entries : List (K × V)) → length (keys_of (set_key (is_at (cmp key)) entries key)) ≡ length (keys_of entries)
    length-replaced [] = refl
    length-replaced (e ∷ entries) = by_test (is_at (cmp key) e.0) (length-replaced entries)
      where
        by_test : (t : Bool) → length (keys_of (set_key (is_at (cmp key)) entries key)) ≡ length (keys_of entries)
            → length (keys_of (cond t ((key, e.1) ∷ entries) (e ∷ set_key (is_at (cmp key)) entries key))) ≡ suc (length (keys_of entries))
        by_test true later = refl
        by_test false later = ap suc later

    -- a key that is there is replaced
    pub replaced-there : IsTotalOrder cmp → (entries : List (K × V)) (old : K) → IsStrictlySortedBy cmp (keys_of entries) → lookup_key (is_at (cmp key)) entries ≡ Some old
        → keys_of (set_key (is_at (cmp key)) entries key) ≡ replace_key cmp (keys_of entries) key
    replaced-there total [] old sorted found = absurd (cc)
    replaced-there total (e ∷ entries) old sorted found =
        by_order (cmp key e.0) refl found (replaced-there total entries old (rest-sorted cmp e.0 (keys_of entries) sorted))
      where
        by_order : (o : Ordering) → cmp key e.0 ≡ o → cond (is_eq o) (Some e.0) (lookup_key (is_at (cmp key)) entries) ≡ Some old
            → (lookup_key (is_at (cmp key)) entries ≡ Some old → keys_of (set_key (is_at (cmp key)) entries key) ≡ replace_key cmp (keys_of entries) key)
            → keys_of (cond (is_eq o) ((key, e.1) ∷ entries) (e ∷ set_key (is_at (cmp key)) entries key))
            ≡ match_ordering o (key ∷ e.0 ∷ keys_of entries) (key ∷ keys_of entries) (e.0 ∷ replace_key cmp (keys_of entries) key)
        by_order Less is found later =
            let wrong : true ≡ false =
            sym (ap is_some (sym (key-found (is_at (cmp key)) entries) ∙ found)) ∙ some-found (is_at (cmp key)) (keys_of entries)
            ∙ lacks cmp key (keys_of entries) (all-above cmp total key e.0 (keys_of entries) is sorted).1 in
            absurd (cc)
        by_order Equal is found later = refl
        by_order Greater is found later = ap (λ l. e.0 ∷ l) (later found)
