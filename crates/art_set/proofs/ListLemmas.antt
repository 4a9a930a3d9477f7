-- The keys of entries, where the entries are changed or looked up.
use Rattle.std.proofs.Common.{◌≡◌, ◌∙◌, ◌+◌, ℕ, Bool, true, false, not, cond, ◌||◌, List, [], ◌∷◌, ◌++◌, length, take, drop, filter, Option, Some, None, is_some, refl, sym, ap, subst, arith}
use Rattle.std.proofs.lemmas.List.{drop-map, length-map, map-append, take-map}
use Rattle.std.proofs.lemmas.Option.{same_Some}
use Rattle.std.specs.BTreeMap.{insert_entry, is_at}
use Rattle.std.specs.BTreeSet.{insert_key}
use Rattle.std.specs.List.{list_any}
use Rattle.std.specs.Map.{keys_of, lookup, lookup_key, remove_entry}
use Rattle.std.specs.Ordering.{is_eq, match_ordering}
use Rattle.std.specs.Bool.{OnFalse}
use Rattle.std.specs.Option.{IfNone}
use Rattle.std.specs.Prelude.{find}
use Rattle.std.specs.Set.{remove_key}
use Rattle.std.specs.declared.cmp.Ordering.{Ordering}
use Rattle.std.specs.declared.cmp.Ordering.TheVariants.{Less, Equal, Greater}
use Rattle.art_map.specs.Ranges.{IsPartOf}
use Rattle.art_set.specs.KeyLists.{contains_by, find_by}

module _ {K V : Type 0} (cmp : K → K → Ordering) (key : K) (value : V) where
  -- the keys with one inserted
  pub keys-inserted : (entries : List (K × V)) → keys_of (insert_entry cmp entries key value) ≡ insert_key cmp (keys_of entries) key
  keys-inserted [] = refl
  keys-inserted (e ∷ entries) = by_order (cmp key e.0) (keys-inserted entries)
    where
      by_order : (o : Ordering) → keys_of (insert_entry cmp entries key value) ≡ insert_key cmp (keys_of entries) key
          → keys_of (match_ordering o ((key, value) ∷ e ∷ entries) ((e.0, value) ∷ entries) (e ∷ insert_entry cmp entries key value))
          ≡ match_ordering o (key ∷ e.0 ∷ keys_of entries) (e.0 ∷ keys_of entries) (e.0 ∷ insert_key cmp (keys_of entries) key)
      by_order Less later = refl
      by_order Equal later = refl
      by_order Greater later = ap (λ l. e.0 ∷ l) later

module _ {K V : Type 0} (test : K → Bool) where
  -- whether there is one that passes a test
  pub keys-tested : (entries : List (K × V)) → is_some (lookup test entries) ≡ list_any test (keys_of entries)
  keys-tested [] = refl
  keys-tested (e ∷ entries) = by_test (test e.0) (keys-tested entries)
    where
      by_test : (t : Bool) → is_some (lookup test entries) ≡ list_any test (keys_of entries)
          → is_some (cond t (Some e.1) (lookup test entries)) ≡ (t || list_any test (keys_of entries))
      by_test true later = refl
      by_test false later = later

  -- the one that passes it
  pub key-found : (entries : List (K × V)) → lookup_key test entries ≡ find test (keys_of entries)
  key-found [] = refl
  key-found (e ∷ entries) = ap (cond (test e.0) (Some e.0)) (key-found entries)

  -- the keys without it
  pub keys-removed : (entries : List (K × V)) → keys_of (remove_entry test entries) ≡ remove_key test (keys_of entries)
  keys-removed [] = refl
  keys-removed (e ∷ entries) = by_test (test e.0) (keys-removed entries)
    where
      by_test : (t : Bool) → keys_of (remove_entry test entries) ≡ remove_key test (keys_of entries)
          → keys_of (cond t entries (e ∷ remove_entry test entries)) ≡ cond t (keys_of entries) (e.0 ∷ remove_key test (keys_of entries))
      by_test true later = refl
      by_test false later = ap (λ l. e.0 ∷ l) later

  -- those that pass it
  keys-filtered : (entries : List (K × V)) → keys_of (filter (λ entry. test entry.0) entries) ≡ filter test (keys_of entries)
  keys-filtered [] = refl
  keys-filtered (e ∷ entries) = by_test (test e.0) (keys-filtered entries)
    where
      by_test : (t : Bool) → keys_of (filter (λ entry. test entry.0) entries) ≡ filter test (keys_of entries)
          → keys_of (cond t (e ∷ filter (λ entry. test entry.0) entries) (filter (λ entry. test entry.0) entries))
          ≡ cond t (e.0 ∷ filter test (keys_of entries)) (filter test (keys_of entries))
      by_test true later = ap (λ l. e.0 ∷ l) later
      by_test false later = later

-- whether a key is found is whether there is one
pub some-found : {K : Type 0} (test : K → Bool) (keys : List K) → is_some (find test keys) ≡ list_any test keys
some-found test [] = refl
some-found {K} test (key ∷ keys) = by_test (test key) (some-found test keys)
  where
    by_test : (t : Bool) → is_some (find test keys) ≡ list_any test keys → is_some (cond t (Some key) (find test keys)) ≡ (t || list_any test keys)
    by_test true later = refl
    by_test false later = later

-- the key that is found compares `Equal`
pub found-equal : {K : Type 0} (compare : K → Ordering) (keys : List K) (found : K) → Some found ≡ find_by compare keys → compare found ≡ Equal
found-equal compare [] found is = absurd (cc)
found-equal compare (key ∷ keys) found is = by_order (compare key) refl is (found-equal compare keys found)
  where
    by_order : (o : Ordering) → compare key ≡ o → Some found ≡ cond (is_eq o) (Some key) (find_by compare keys) → (Some found ≡ find_by compare keys → compare found ≡ Equal) → compare found ≡ Equal
    by_order Less at is later = later is
    by_order Equal at is later = ap compare (same_Some found key is) ∙ at
    by_order Greater at is later = later is

turned : (s t : Bool) → s ≡ not t → t ≡ not s
turned s true is = ap not (sym is)
turned s false is = ap not (sym is)

-- entries with these keys
module _ {K V : Type 0} (entries : List (K × V)) (keys : List K) (is : keys_of entries ≡ keys) where
  pub has-key : (compare : K → Ordering) → is_some (lookup (is_at compare) entries) ≡ contains_by compare keys
  has-key compare = keys-tested (is_at compare) entries ∙ ap (contains_by compare) is

  pub new-key : (compare : K → Ordering) (old : Option V) (added : Bool) → is_some old ≡ not added → old ≡ lookup (is_at compare) entries
      → added ≡ not (contains_by compare keys)
  new-key compare old added is found = turned (is_some old) added is ∙ ap not (ap is_some found ∙ has-key compare)

  pub gets-key : (compare : K → Ordering) → lookup_key (is_at compare) entries ≡ find_by compare keys
  gets-key compare = key-found (is_at compare) entries ∙ ap (find_by compare) is

  pub removes-key : (compare : K → Ordering) (new : List (K × V)) → new ≡ remove_entry (is_at compare) entries → keys_of new ≡ remove_key (is_at compare) keys
  removes-key compare new so = ap keys_of so ∙ keys-removed (is_at compare) entries ∙ ap (remove_key (is_at compare)) is

  pub inserts-key : (cmp : K → K → Ordering) (key : K) (value : V) (new : List (K × V)) → new ≡ insert_entry cmp entries key value → keys_of new ≡ insert_key cmp keys key
  inserts-key cmp key value new so = ap keys_of so ∙ keys-inserted cmp key value entries ∙ ap (λ l. insert_key cmp l key) is

  pub counts-keys : length keys ≡ length entries
  counts-keys = ap length (sym is) ∙ length-map entries (λ entry. entry.0)

  pub loses-keys : (new : List (K × V)) (n : ℕ) → length new + n ≡ length entries → length (keys_of new) + n ≡ length keys
  loses-keys new n so = omega (arith, counts-keys, length-map new (λ (entry : K × V). entry.0), so)

  pub filters-keys : (test : K → Bool) (part : List (K × V)) → part ≡ filter (λ entry. test entry.0) entries → keys_of part ≡ filter test keys
  filters-keys test part so = ap keys_of so ∙ keys-filtered test entries ∙ ap (filter test) is

  pub part-of-keys : (part : List (K × V)) → IsPartOf entries part → IsPartOf keys (keys_of part)
  part-of-keys part run = (
    run.0,
    run.1,
    ap keys_of run.2 ∙ sym (take-map (λ entry. entry.0) run.1 (drop run.0 entries)) ∙ ap (take run.1) (sym (drop-map (λ entry. entry.0) run.0 entries))
        ∙ ap (λ l. take run.1 (drop run.0 l)) is,
  )

  pub ends-with-key : (rest : List (K × V)) (last : K × V) → entries ≡ rest ++ last ∷ [] → keys ≡ keys_of rest ++ last.0 ∷ []
  ends-with-key rest last so = sym is ∙ ap keys_of so ∙ map-append (λ entry. entry.0) rest (last ∷ [])

-- what holds where a test fails
pub on-false : {P : Type 0} (b : Bool) → (b ≡ false → P) → OnFalse b P
on-false true holds = tt
on-false false holds = holds refl

pub on-false-none : {X : Type 0} (P : Type 0) (o : Option X) (b : Bool) → b ≡ is_some o → IfNone o P → OnFalse b P
on-false-none P None b is holds = subst (λ b. OnFalse b P) (sym is) holds
on-false-none P (Some x) b is holds = subst (λ b. OnFalse b P) (sym is) tt

pub no-entries : {K V : Type 0} (entries : List (K × V)) → keys_of entries ≡ [] → entries ≡ []
no-entries [] is = refl
no-entries (e ∷ entries) is = absurd (cc)
