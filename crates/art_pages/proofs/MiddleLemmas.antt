-- A list of entries that is cut in three: all of the first part is below a query, and all of the last is above it. What is
-- looked up or changed at the query concerns the middle alone.
use Rattle.std.proofs.Common.{◌≡◌, ◌∙◌, Bool, true, false, cond, List, [], ◌∷◌, ◌++◌, All, Some, None, refl, ap}
use Rattle.std.proofs.lemmas.List.Elements.{All-head, All-tail}
use Rattle.std.specs.BTreeMap.{is_at, insert_entry}
use Rattle.std.specs.Map.{lookup, lookup_key, remove_entry, set_value}
use Rattle.std.specs.Ordering.{is_eq, match_ordering}
use Rattle.std.specs.declared.cmp.Ordering.{Ordering}
use Rattle.std.specs.declared.cmp.Ordering.TheVariants.{Less, Equal, Greater}
use Rattle.art_pages.specs.Entries.{AllBelow, AllAbove, get_by, get_key_by}

module _ {K V : Type 0} (test : K → Bool) where
  -- no key passes a test
  abbrev pub AllFail : List (K × V) → Type 0
  AllFail entries = All (λ entry. test entry.0 ≡ false) entries

  module _ (entry : K × V) (entries : List (K × V)) (fail : AllFail (entry ∷ entries)) where
    first : test entry.0 ≡ false
    first = All-head (λ o. test o.0 ≡ false) entry entries fail

    rest : AllFail entries
    rest = All-tail (λ o. test o.0 ≡ false) entry entries fail

  lookup_key-none : (entries : List (K × V)) → AllFail entries → lookup_key test entries ≡ None
  lookup_key-none [] fail = refl
  lookup_key-none (entry ∷ entries) fail =
      ap (λ t. cond t (Some entry.0) (lookup_key test entries)) (first entry entries fail) ∙ lookup_key-none entries (rest entry entries fail)

  lookup-none : (entries : List (K × V)) → AllFail entries → lookup test entries ≡ None
  lookup-none [] fail = refl
  lookup-none (entry ∷ entries) fail =
      ap (λ t. cond t (Some entry.1) (lookup test entries)) (first entry entries fail) ∙ lookup-none entries (rest entry entries fail)

  lookup-past : (a b : List (K × V)) → AllFail a → lookup test (a ++ b) ≡ lookup test b
  lookup-past [] b fail = refl
  lookup-past (entry ∷ a) b fail = ap (λ t. cond t (Some entry.1) (lookup test (a ++ b))) (first entry a fail) ∙ lookup-past a b (rest entry a fail)

  lookup-within : (a b : List (K × V)) → AllFail b → lookup test (a ++ b) ≡ lookup test a
  lookup-within [] b fail = lookup-none b fail
  lookup-within (entry ∷ a) b fail = ap (cond (test entry.0) (Some entry.1)) (lookup-within a b fail)

  lookup_key-past : (a b : List (K × V)) → AllFail a → lookup_key test (a ++ b) ≡ lookup_key test b
  lookup_key-past [] b fail = refl
  lookup_key-past (entry ∷ a) b fail = ap (λ t. cond t (Some entry.0) (lookup_key test (a ++ b))) (first entry a fail) ∙ lookup_key-past a b (rest entry a fail)

  lookup_key-within : (a b : List (K × V)) → AllFail b → lookup_key test (a ++ b) ≡ lookup_key test a
  lookup_key-within [] b fail = lookup_key-none b fail
  lookup_key-within (entry ∷ a) b fail = ap (cond (test entry.0) (Some entry.0)) (lookup_key-within a b fail)

  remove-none : (entries : List (K × V)) → AllFail entries → remove_entry test entries ≡ entries
  remove-none [] fail = refl
  remove-none (entry ∷ entries) fail =
      ap (λ t. cond t entries (entry ∷ remove_entry test entries)) (first entry entries fail) ∙ ap (λ l. entry ∷ l) (remove-none entries (rest entry entries fail))

  remove-past : (a b : List (K × V)) → AllFail a → remove_entry test (a ++ b) ≡ a ++ remove_entry test b
  remove-past [] b fail = refl
  remove-past (entry ∷ a) b fail =
      ap (λ t. cond t (a ++ b) (entry ∷ remove_entry test (a ++ b))) (first entry a fail) ∙ ap (λ l. entry ∷ l) (remove-past a b (rest entry a fail))

  remove-within : (a b : List (K × V)) → AllFail b → remove_entry test (a ++ b) ≡ remove_entry test a ++ b
  remove-within [] b fail = remove-none b fail
  remove-within (entry ∷ a) b fail = by_test (test entry.0) (remove-within a b fail)
    where
      by_test : (t : Bool) → remove_entry test (a ++ b) ≡ remove_entry test a ++ b → cond t (a ++ b) (entry ∷ remove_entry test (a ++ b)) ≡ cond t a (entry ∷ remove_entry test a) ++ b
      by_test true later = refl
      by_test false later = ap (λ l. entry ∷ l) later

  set_value-none : (entries : List (K × V)) (value : V) → AllFail entries → set_value test entries value ≡ entries
  set_value-none [] value fail = refl
  set_value-none (entry ∷ entries) value fail =
      ap (λ t. cond t ((entry.0, value) ∷ entries) (entry ∷ set_value test entries value)) (first entry entries fail)
      ∙ ap (λ l. entry ∷ l) (set_value-none entries value (rest entry entries fail))

  set_value-past : (a b : List (K × V)) (value : V) → AllFail a → set_value test (a ++ b) value ≡ a ++ set_value test b value
  set_value-past [] b value fail = refl
  set_value-past (entry ∷ a) b value fail =
      ap (λ t. cond t ((entry.0, value) ∷ (a ++ b)) (entry ∷ set_value test (a ++ b) value)) (first entry a fail)
      ∙ ap (λ l. entry ∷ l) (set_value-past a b value (rest entry a fail))

  set_value-within : (a b : List (K × V)) (value : V) → AllFail b → set_value test (a ++ b) value ≡ set_value test a value ++ b
  set_value-within [] b value fail = set_value-none b value fail
  set_value-within (entry ∷ a) b value fail = by_test (test entry.0) (set_value-within a b value fail)
    where
      by_test : (t : Bool) → set_value test (a ++ b) value ≡ set_value test a value ++ b
          → cond t ((entry.0, value) ∷ (a ++ b)) (entry ∷ set_value test (a ++ b) value) ≡ cond t ((entry.0, value) ∷ a) (entry ∷ set_value test a value) ++ b
      by_test true later = refl
      by_test false later = ap (λ l. entry ∷ l) later

module _ {K V : Type 0} (compare : K → Ordering) where
  -- what is below or above a query is not at it
  pub below-fail : (entries : List (K × V)) → AllBelow compare entries → AllFail (is_at compare) entries
  below-fail entries below index d inside = ap is_eq (below index d inside)

  pub above-fail : (entries : List (K × V)) → AllAbove compare entries → AllFail (is_at compare) entries
  above-fail entries above index d inside = ap is_eq (above index d inside)

  module _ (before mid after : List (K × V)) (low : AllBelow compare before) (high : AllAbove compare after) where
    pub get_by-middle : get_by compare (before ++ (mid ++ after)) ≡ get_by compare mid
    get_by-middle =
        lookup-past (is_at compare) before (mid ++ after) (below-fail before low) ∙ lookup-within (is_at compare) mid after (above-fail after high)

    pub get_key_by-middle : get_key_by compare (before ++ (mid ++ after)) ≡ get_key_by compare mid
    get_key_by-middle =
        lookup_key-past (is_at compare) before (mid ++ after) (below-fail before low) ∙ lookup_key-within (is_at compare) mid after (above-fail after high)

    pub remove_entry-middle : remove_entry (is_at compare) (before ++ (mid ++ after)) ≡ before ++ (remove_entry (is_at compare) mid ++ after)
    remove_entry-middle =
        remove-past (is_at compare) before (mid ++ after) (below-fail before low) ∙ ap (λ l. before ++ l) (remove-within (is_at compare) mid after (above-fail after high))

    pub set_value-middle : (value : V) → set_value (is_at compare) (before ++ (mid ++ after)) value ≡ before ++ (set_value (is_at compare) mid value ++ after)
    set_value-middle value =
        set_value-past (is_at compare) before (mid ++ after) value (below-fail before low)
        ∙ ap (λ l. before ++ l) (set_value-within (is_at compare) mid after value (above-fail after high))

module _ {K V : Type 0} (cmp : K → K → Ordering) (key : K) (value : V) where
  insert-past : (a b : List (K × V)) → AllBelow (cmp key) a → insert_entry cmp (a ++ b) key value ≡ a ++ insert_entry cmp b key value
  insert-past [] b below = refl
  insert-past (entry ∷ a) b below =
      ap (λ o. match_ordering o ((key, value) ∷ entry ∷ (a ++ b)) ((entry.0, value) ∷ (a ++ b)) (entry ∷ insert_entry cmp (a ++ b) key value)) (All-head (λ o. cmp key o.0 ≡ Greater) entry a below)
      ∙ ap (λ l. entry ∷ l) (insert-past a b (All-tail (λ o. cmp key o.0 ≡ Greater) entry a below))

  insert-before : (b : List (K × V)) → AllAbove (cmp key) b → insert_entry cmp b key value ≡ (key, value) ∷ b
  insert-before [] above = refl
  insert-before (entry ∷ b) above =
      ap (λ o. match_ordering o ((key, value) ∷ entry ∷ b) ((entry.0, value) ∷ b) (entry ∷ insert_entry cmp b key value)) (All-head (λ o. cmp key o.0 ≡ Less) entry b above)

  insert-within : (a b : List (K × V)) → AllAbove (cmp key) b → insert_entry cmp (a ++ b) key value ≡ insert_entry cmp a key value ++ b
  insert-within [] b above = insert-before b above
  insert-within (entry ∷ a) b above = by_order (cmp key entry.0) (insert-within a b above)
    where
      by_order : (o : Ordering) → insert_entry cmp (a ++ b) key value ≡ insert_entry cmp a key value ++ b
          → match_ordering o ((key, value) ∷ entry ∷ (a ++ b)) ((entry.0, value) ∷ (a ++ b)) (entry ∷ insert_entry cmp (a ++ b) key value)
          ≡ match_ordering o ((key, value) ∷ entry ∷ a) ((entry.0, value) ∷ a) (entry ∷ insert_entry cmp a key value) ++ b
      by_order Less later = refl
      by_order Equal later = refl
      by_order Greater later = ap (λ l. entry ∷ l) later

  pub insert_entry-middle : (before mid after : List (K × V)) → AllBelow (cmp key) before → AllAbove (cmp key) after
      → insert_entry cmp (before ++ (mid ++ after)) key value ≡ before ++ (insert_entry cmp mid key value ++ after)
  insert_entry-middle before mid after low high = insert-past before (mid ++ after) low ∙ ap (λ l. before ++ l) (insert-within mid after high)

  -- into a gap
  pub insert_entry-gap : (before after : List (K × V)) → AllBelow (cmp key) before → AllAbove (cmp key) after
      → insert_entry cmp (before ++ after) key value ≡ before ++ (key, value) ∷ after
  insert_entry-gap before after low high = insert-past before after low ∙ ap (λ l. before ++ l) (insert-before after high)
