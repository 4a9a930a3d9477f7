-- A key put into the place of an equal one: its entry is taken out of its page and put in again.
use Rattle.std.proofs.Common.{◌≡◌, ◌≢◌, ◌∙◌, ℕ, zero, suc, ◌+◌, ◌<◌, Bool, true, false, cond, List, [], ◌∷◌, ◌++◌, length, take, drop, All, Some, None, Result, Ok, Err, IfOk, refl, sym, ap, subst, arith}
use Rattle.std.proofs.lemmas.List.Elements.{All-nil, All-weaker}
use Rattle.std.proofs.lemmas.Option.{same_Some}
use Rattle.std.specs.BTreeMap.{insert_entry, is_at}
use Rattle.std.specs.Cmp.{IsTotalOrder}
use Rattle.std.specs.Map.{lookup, lookup_key, remove_entry, set_key}
use Rattle.std.specs.Ordering.{is_eq, match_ordering}
use Rattle.std.specs.Prelude.{set, slice_get}
use Rattle.std.specs.declared.cmp.Ordering.{Ordering}
use Rattle.std.specs.declared.cmp.Ordering.TheVariants.{Less, Equal, Greater}
use Rattle.art_bytes.specs.Text.{text_order}
use Rattle.art_pages.specs.Entries.{AllAbove, IsIndexable, IsOrdered, IsPlaceOf, get_by}
use Rattle.art_pages.proofs.FoundLemmas.{remove_entry-found}
use Rattle.art_pages.proofs.MiddleLemmas.{get_by-middle, insert_entry-gap}
use Rattle.art_pages.proofs.OrderLemmas.{above-first, ordered-right}
use Rattle.art_map.specs.Inserts.{IsSwapped}
use Rattle.art_map.specs.Pages.{map_entries, AnchorsAbove, IsMap}
use Rattle.art_map.proofs.EntryLemmas.{all-inserted, all-removed, ordered-inserted, ordered-removed}
use Rattle.art_map.proofs.PartLemmas.{AgreesBy, head-of-query, page-of-query}
use Rattle.art_map.proofs.PutLemmas as put
use Rattle.art_map.proofs.SeatLemmas.{value-of-page}
use Rattle.art_map.proofs.TakeLemmas as taken

module _ {K V : Type 0} (order cmp : K → K → Ordering) (same : order ≡ cmp) (total : IsTotalOrder cmp) (is_key : K → Type 0) (encoded : K → List ℕ)
    (key : K) (key_is : IsIndexable is_key encoded key) (law : AgreesBy is_key encoded (cmp key) (encoded key))
    (head : List (K × V)) (pages : List (List ℕ × List (K × V))) (map : IsMap order is_key encoded head pages) where
  abbrev rest-of : List (K × V) → List (K × V)
  rest-of entries = remove_entry (is_at (cmp key)) entries

  -- in the first page
  module _ (above : AnchorsAbove (encoded key) pages) (now : List (K × V)) (swapped : IsSwapped cmp key head now) where
    without : IsMap order is_key encoded (rest-of head) pages
    without = taken.head-map order is_key encoded (cmp key) (encoded key) law head pages map above

    pub head-swap-map : IsMap order is_key encoded now pages
    head-swap-map =
        subst (λ l. IsMap order is_key encoded l pages) (sym swapped.2)
        (put.head-map order cmp same total is_key encoded key swapped.0 key_is law (rest-of head) pages without above)

    pub head-swap : IsSwapped cmp key (map_entries head pages) (map_entries now pages)
    head-swap = (
      swapped.0,
      value-of-page (cmp key) head (map_entries head pages) (head-of-query is_key encoded (cmp key) (encoded key) law order head pages map above) ∙ swapped.1,
      ap (λ l. map_entries l pages) swapped.2
          ∙ put.head-entries order cmp same total is_key encoded key swapped.0 key_is law (rest-of head) pages without above
          ∙ ap (λ l. insert_entry cmp l key swapped.0) (taken.head-left order is_key encoded (cmp key) (encoded key) law head pages map above),
    )

  -- in the page under the last anchor that is not above the key
  module _ (left : List (List ℕ × List (K × V))) (page : List ℕ × List (K × V)) (right : List (List ℕ × List (K × V))) (is : pages ≡ left ++ page ∷ right)
      (low : text_order page.0 (encoded key) ≢ Greater) (above : AnchorsAbove (encoded key) right)
      (entries : List (K × V)) (new : List (List ℕ × List (K × V))) (now : new ≡ left ++ (page.0, entries) ∷ right) (swapped : IsSwapped cmp key page.1 entries) where
    abbrev between : List (List ℕ × List (K × V))
    between = left ++ (page.0, rest-of page.1) ∷ right

    between-map : IsMap order is_key encoded head between
    between-map = taken.page-map order is_key encoded (cmp key) (encoded key) law head pages map left page right is low above (rest-of page.1) refl between refl

    is-now : new ≡ left ++ (page.0, insert_entry cmp (rest-of page.1) key swapped.0) ∷ right
    is-now = now ∙ ap (λ l. left ++ (page.0, l) ∷ right) swapped.2

    pub page-swap-map : IsMap order is_key encoded head new
    page-swap-map =
        subst (IsMap order is_key encoded head) (sym is-now)
        (put.page-map order cmp same total is_key encoded key swapped.0 key_is law head between between-map left (page.0, rest-of page.1) right refl low above)

    pub page-swap : IsSwapped cmp key (map_entries head pages) (map_entries head new)
    page-swap = (
      swapped.0,
      value-of-page (cmp key) page.1 (map_entries head pages)
          (page-of-query is_key encoded (cmp key) (encoded key) law order head pages map left page right is low above) ∙ swapped.1,
      ap (map_entries head) is-now
          ∙ put.page-entries order cmp same total is_key encoded key swapped.0 key_is law head between between-map left (page.0, rest-of page.1) right refl low above
          ∙ ap (λ l. insert_entry cmp l key swapped.0)
          (taken.page-left order is_key encoded (cmp key) (encoded key) law head pages map left page right is low above (rest-of page.1) refl between refl),
    )

module _ {K V : Type 0} (cmp : K → K → Ordering) (total : IsTotalOrder cmp) (key : K) (value : V) where
  -- what is taken out and put in again under an equal key is in the same place
  pub swapped-is : (entries : List (K × V)) → IsOrdered cmp entries → get_by (cmp key) entries ≡ Some value
      → insert_entry cmp (remove_entry (is_at (cmp key)) entries) key value ≡ set_key (is_at (cmp key)) entries key
  swapped-is [] ordered found = absurd (cc)
  swapped-is (e ∷ entries) ordered found =
      by_order (cmp key e.0) refl found (swapped-is entries (ordered-right cmp (e ∷ []) entries ordered))
    where
      above : AllAbove (cmp e.0) entries
      above = above-first cmp e entries ordered

      -- above a key that is equal to one or below it
      none : AllAbove (cmp key) entries → get_by (cmp key) entries ≡ None
      none over = get_by-middle (cmp key) [] [] entries (All-nil (λ entry. cmp key entry.0 ≡ Greater)) over

      by_order : (o : Ordering) → cmp key e.0 ≡ o → cond (is_eq o) (Some e.1) (get_by (cmp key) entries) ≡ Some value
          → (get_by (cmp key) entries ≡ Some value → insert_entry cmp (remove_entry (is_at (cmp key)) entries) key value ≡ set_key (is_at (cmp key)) entries key)
          → insert_entry cmp (cond (is_eq o) entries (e ∷ remove_entry (is_at (cmp key)) entries)) key value
          ≡ cond (is_eq o) ((key, e.1) ∷ entries) (e ∷ set_key (is_at (cmp key)) entries key)
      by_order Less is found later =
          let wrong : Some value ≡ None =
          sym found ∙ none (All-weaker (λ other. cmp e.0 other.0 ≡ Less) (λ other. cmp key other.0 ≡ Less) (λ other less. total.trans key e.0 other.0 is less) entries above) in
          absurd (cc)
      by_order Equal is found later =
          insert_entry-gap cmp key value [] entries (All-nil (λ entry. cmp key entry.0 ≡ Greater))
          (All-weaker (λ other. cmp e.0 other.0 ≡ Less) (λ other. cmp key other.0 ≡ Less) (λ other less. total.congr key e.0 other.0 is ∙ less) entries above)
          ∙ ap (λ v. (key, v) ∷ entries) (sym (same_Some e.1 value found))
      by_order Greater is found later =
          let rest = remove_entry (is_at (cmp key)) entries in
          ap (λ o. match_ordering o ((key, value) ∷ e ∷ rest) ((e.0, value) ∷ rest) (e ∷ insert_entry cmp rest key value)) is ∙ ap (λ l. e ∷ l) (later found)

module _ {K V : Type 0} (test : K → Bool) (key : K) where
  pub length-set_key : (entries : List (K × V)) → length (set_key test entries key) ≡ length entries
  length-set_key [] = refl
  length-set_key (e ∷ entries) = by_test (test e.0) (length-set_key entries)
    where
      by_test : (t : Bool) → length (set_key test entries key) ≡ length entries → length (cond t ((key, e.1) ∷ entries) (e ∷ set_key test entries key)) ≡ suc (length entries)
      by_test true later = refl
      by_test false later = ap suc later

-- where no value is found, no key is
pub no-key : {K V : Type 0} (test : K → Bool) (entries : List (K × V)) → lookup test entries ≡ None → lookup_key test entries ≡ None
no-key test [] none = refl
no-key test (e ∷ entries) none = by_test (test e.0) none (no-key test entries)
  where
    by_test : (t : Bool) → cond t (Some e.1) (lookup test entries) ≡ None → (lookup test entries ≡ None → lookup_key test entries ≡ None) → cond t (Some e.0) (lookup_key test entries) ≡ None
    by_test true none later = absurd (cc)
    by_test false none later = later none

pub ok-weaker : {A B : Type 0} (r : Result A B) {P Q : A → Type 0} → IfOk r P → ((a : A) → P a → Q a) → IfOk r Q
ok-weaker (Ok a) holds so = so a holds
ok-weaker (Err b) holds so = holds

module _ {K V : Type 0} (cmp : K → K → Ordering) (key : K) (value : V) (is_key : K → Type 0) (entries : List (K × V)) (place : ℕ) (entry : K × V)
    (found : IsPlaceOf (cmp key) entries (Ok place)) (is : slice_get entries place ≡ Some entry) where
  -- an entry taken out of its place and put in again
  pub swapped-at : insert_entry cmp (remove_entry (is_at (cmp key)) entries) key value ≡ take place entries ++ (key, value) ∷ drop (place + 1) entries
  swapped-at =
      ap (λ l. insert_entry cmp l key value) (remove_entry-found (cmp key) entries place entry found is)
      ∙ insert_entry-gap cmp key value (take place entries) (drop (place + 1) entries) found.2 found.3

  pub ordered-at : IsTotalOrder cmp → IsOrdered cmp entries → IsOrdered cmp (take place entries ++ (key, value) ∷ drop (place + 1) entries)
  ordered-at total ordered =
      subst (IsOrdered cmp) swapped-at
      (ordered-inserted cmp key value total (remove_entry (is_at (cmp key)) entries) (ordered-removed (is_at (cmp key)) cmp entries ordered))

  pub keys-at : is_key key → All (λ entry. is_key entry.0) entries → All (λ entry. is_key entry.0) (take place entries ++ (key, value) ∷ drop (place + 1) entries)
  keys-at key_is keys =
      subst (All (λ entry. is_key entry.0)) swapped-at
      (all-inserted cmp key value is_key (remove_entry (is_at (cmp key)) entries) (all-removed (is_at (cmp key)) (λ entry. is_key entry.0) entries keys) key_is)

-- an item set, as the items before it and behind it
pub set-cut : {X : Type 0} (items : List X) (place : ℕ) (item : X) → place < length items → set items place item ≡ take place items ++ item ∷ drop (place + 1) items
set-cut {X} items place item within =
    let more : suc place ≡ place + 1 = omega arith in
    cut items place within ∙ ap (λ n. take place items ++ item ∷ drop n items) more
  where
    cut : (items : List X) (place : ℕ) → place < length items → set items place item ≡ take place items ++ item ∷ drop (suc place) items
    cut [] place within = absurd (omega (arith, within))
    cut (x ∷ items) zero within = refl
    cut (x ∷ items) (suc place) within = ap (λ l. x ∷ l) (cut items place (omega (arith, within)))
