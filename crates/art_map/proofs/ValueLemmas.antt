-- Maps of which one entry has another value, and the entry that a key has after it was looked for and added.
use Rattle.std.proofs.Common.{◌≡◌, ◌≢◌, ◌∙◌, ℕ, zero, suc, ◌+◌, ◌<◌, ◌≤◌, Bool, true, false, cond, List, [], ◌∷◌, ◌++◌, length, take, drop, get_or, All, Option, Some, None, Result, Ok, Err, IfOk, IfSome, OnOk, inl, inr, append_assoc, refl, sym, ap, subst, arith}
use Rattle.std.proofs.lemmas.List.{map-append}
use Rattle.std.proofs.lemmas.List.Elements.{All-weaker}
use Rattle.std.proofs.lemmas.Option.{same_Some}
use Rattle.std.specs.BTreeMap.{insert_entry, is_at}
use Rattle.std.specs.Cmp.{IsTotalOrder}
use Rattle.std.specs.List.Sorted.{IsStrictlySortedBy}
use Rattle.std.specs.Map.{keys_of, lookup, set_value}
use Rattle.std.specs.Option.{UnwrapsOrElse, option_map}
use Rattle.std.specs.Ordering.{is_eq, match_ordering, ordering_reverse}
use Rattle.std.specs.Prelude.{insert, slice_get}
use Rattle.std.specs.declared.cmp.Ordering.{Ordering}
use Rattle.std.specs.declared.cmp.Ordering.TheVariants.{Less, Equal, Greater}
use Rattle.art_bytes.specs.Text.{text_order}
use Rattle.art_pages.specs.Contents.{set_value_at}
use Rattle.art_pages.specs.Entries.{AllAbove, AllBelow, IsIndexable, IsPlaceOf, get_by}
use Rattle.art_pages.proofs.FoundLemmas.{get_by-found, insert_entry-found, set_value-found}
use Rattle.art_pages.proofs.MiddleLemmas.{insert_entry-middle, set_value-middle}
use Rattle.art_pages.proofs.OrderLemmas.{keys-same}
use Rattle.art_map.specs.Pages.{entries_in, map_entries, KeysBelow, KeysFrom, AreParted, IsEncoding, IsMap}
use Rattle.art_map.proofs.PartLemmas.{parted-at, All-left}
use Rattle.art_map.proofs.ChangeLemmas.{AreOver, entries-around, parted-changed, parted-before, parted-over, over-page, all-put, all-middle}
use Rattle.art_map.specs.Spots.{HaveKeyNow}
use Rattle.art_map.proofs.EntryLemmas.{length-added}

module _ {K V : Type 0} where
  -- an entry that is within the list
  pub entry-at : (entries : List (K × V)) (place : ℕ) → place < length entries → (entry : K × V) × (slice_get entries place ≡ Some entry)
  entry-at [] place within = absurd (omega (arith, within))
  entry-at (entry ∷ entries) zero within = (entry, refl)
  entry-at (entry ∷ entries) (suc place) within = entry-at entries place (omega (arith, within))

  -- other values under the same keys
  pub keys-set : (entries : List (K × V)) (place : ℕ) (value : V) → keys_of (set_value_at entries place value) ≡ keys_of entries
  keys-set [] place value = refl
  keys-set (entry ∷ entries) zero value = refl
  keys-set (entry ∷ entries) (suc place) value = ap (λ l. entry.0 ∷ l) (keys-set entries place value)

  -- an entry that was put into a gap
  there-within : (entries : List (K × V)) (place : ℕ) (entry : K × V) → place ≤ length entries → place < length (insert entries place entry)
  there-within [] zero entry within = omega arith
  there-within [] (suc place) entry within = absurd (omega (arith, within))
  there-within (e ∷ entries) zero entry within = omega arith
  there-within (e ∷ entries) (suc place) entry within = let rest = there-within entries place entry (omega (arith, within)) in omega (arith, rest)

  there-is : (entries : List (K × V)) (place : ℕ) (entry d : K × V) → place ≤ length entries → get_or (insert entries place entry) place d ≡ entry
  there-is [] zero entry d within = refl
  there-is [] (suc place) entry d within = absurd (omega (arith, within))
  there-is (e ∷ entries) zero entry d within = refl
  there-is (e ∷ entries) (suc place) entry d within = there-is entries place entry d (omega (arith, within))

  there-before : (entries : List (K × V)) (place : ℕ) (entry : K × V) → place ≤ length entries → take place (insert entries place entry) ≡ take place entries
  there-before [] zero entry within = refl
  there-before [] (suc place) entry within = absurd (omega (arith, within))
  there-before (e ∷ entries) zero entry within = refl
  there-before (e ∷ entries) (suc place) entry within = ap (λ l. e ∷ l) (there-before entries place entry (omega (arith, within)))

  there-behind : (entries : List (K × V)) (place : ℕ) (entry : K × V) → place ≤ length entries → drop (suc place) (insert entries place entry) ≡ drop place entries
  there-behind [] zero entry within = refl
  there-behind [] (suc place) entry within = absurd (omega (arith, within))
  there-behind (e ∷ entries) zero entry within = refl
  there-behind (e ∷ entries) (suc place) entry within = there-behind entries place entry (omega (arith, within))

  pub place-added : (compare : K → Ordering) (entries : List (K × V)) (place : ℕ) (entry : K × V) → IsPlaceOf compare entries (Err place) → compare entry.0 ≡ Equal
      → (new : List (K × V)) → new ≡ insert entries place entry → IsPlaceOf compare new (Ok place)
  place-added compare entries place entry gap equal new is =
      let more : suc place ≡ place + 1 = omega arith in
      subst (λ l. IsPlaceOf compare l (Ok place)) (sym is) (
        there-within entries place entry gap.0,
        λ d. ap (λ (e : K × V). compare e.0) (there-is entries place entry d gap.0) ∙ equal,
        subst (AllBelow compare) (sym (there-before entries place entry gap.0)) gap.1,
        subst (λ n. AllAbove compare (drop n (insert entries place entry))) more (subst (AllAbove compare) (sym (there-behind entries place entry gap.0)) gap.2),
      )

  -- the value at a place that was found
  pub value-at : (compare : K → Ordering) (entries : List (K × V)) (place : ℕ) (value : V) → IsPlaceOf compare entries (Ok place)
      → option_map (λ entry. entry.1) (slice_get entries place) ≡ Some value → get_by compare entries ≡ Some value
  value-at compare entries place value at some =
      let (entry, is) = entry-at entries place at.0 in
      get_by-found compare entries place entry at is ∙ ap (option_map (λ e. e.1)) (sym is) ∙ some

-- entries of which those before the middle are below a query, and those behind it above
module _ {K V : Type 0} (compare : K → Ordering) (before mid after : List (K × V)) (low : AllBelow compare before) (high : AllAbove compare after) where
  pub set-middle : (place : ℕ) → IsPlaceOf compare mid (Ok place) → (value : V)
      → set_value (is_at compare) (before ++ (mid ++ after)) value ≡ before ++ (set_value_at mid place value ++ after)
  set-middle place at value =
      let (entry, is) = entry-at mid place at.0 in
      set_value-middle compare before mid after low high value ∙ ap (λ l. before ++ (l ++ after)) (set_value-found compare mid place entry at is value)

-- a value set where the key is found is an insert
module _ {K V : Type 0} (cmp : K → K → Ordering) (key : K) (before mid after : List (K × V)) (low : AllBelow (cmp key) before) (high : AllAbove (cmp key) after) where
  pub set-inserts : (place : ℕ) → IsPlaceOf (cmp key) mid (Ok place) → (value : V)
      → set_value (is_at (cmp key)) (before ++ (mid ++ after)) value ≡ insert_entry cmp (before ++ (mid ++ after)) key value
  set-inserts place at value =
      let (entry, is) = entry-at mid place at.0 in
      set-middle (cmp key) before mid after low high place at value
      ∙ ap (λ l. before ++ (l ++ after)) (sym (insert_entry-found cmp key value mid place entry at is))
      ∙ sym (insert_entry-middle cmp key value before mid after low high)

module _ {K V : Type 0} (order : K → K → Ordering) (is_key : K → Type 0) (encoded : K → List ℕ) where
  -- other values under the same keys
  over-same : (old new : List (K × V)) (pages : List (List ℕ × List (K × V))) → keys_of old ≡ keys_of new → AreOver encoded old pages → AreOver encoded new pages
  over-same old new pages same =
      All-weaker (λ page. KeysBelow encoded page.0 old) (λ page. KeysBelow encoded page.0 new)
      (λ page. keys-same (λ k. text_order (encoded k) page.0 ≡ Less) old new same) pages

  ordered-of : (old new : List (K × V)) → keys_of old ≡ keys_of new → IsStrictlySortedBy order (keys_of old) → IsStrictlySortedBy order (keys_of new)
  ordered-of old new same = subst (λ keys. IsStrictlySortedBy order keys) same

  module _ (head : List (K × V)) (pages : List (List ℕ × List (K × V))) (map : IsMap order is_key encoded head pages) where
    pub head-valued : (now : List (K × V)) → keys_of now ≡ keys_of head → IsMap order is_key encoded now pages
    head-valued now is =
        let same = sym is in
        let keys : keys_of (map_entries head pages) ≡ keys_of (map_entries now pages) =
        map-append (λ e. e.0) head (entries_in pages) ∙ ap (λ l. l ++ keys_of (entries_in pages)) same ∙ sym (map-append (λ e. e.0) now (entries_in pages)) in record {
          ordered = ordered-of (map_entries head pages) (map_entries now pages) keys map.ordered;
          keys = keys-same (IsIndexable is_key encoded) (map_entries head pages) (map_entries now pages) keys map.keys;
          parted = parted-before encoded head now pages map.parted (over-same head now pages same (parted-over encoded head pages map.parted));
          anchors = map.anchors;
        }

    module _ (left : List (List ℕ × List (K × V))) (page : List ℕ × List (K × V)) (right : List (List ℕ × List (K × V))) (is : pages ≡ left ++ page ∷ right) where
      keys-around : (mid : List (K × V)) → keys_of (map_entries head (left ++ (page.0, mid) ∷ right))
          ≡ keys_of head ++ (keys_of (entries_in left) ++ (keys_of mid ++ keys_of (entries_in right)))
      keys-around mid =
          ap (λ l. keys_of (head ++ l)) (entries-around left (page.0, mid) right)
          ∙ map-append (λ e. e.0) head (entries_in left ++ (mid ++ entries_in right))
          ∙ ap (λ l. keys_of head ++ l) (map-append (λ e. e.0) (entries_in left) (mid ++ entries_in right))
          ∙ ap (λ l. keys_of head ++ (keys_of (entries_in left) ++ l)) (map-append (λ e. e.0) mid (entries_in right))

      pub page-valued : (now : List (K × V)) → keys_of now ≡ keys_of page.1 → (new : List (List ℕ × List (K × V))) → new ≡ left ++ (page.0, now) ∷ right → IsMap order is_key encoded head new
      page-valued now same new is_now =
          let parted = subst (AreParted encoded head) is map.parted in
          let from : KeysFrom encoded page.0 page.1 = All-left (λ entry. text_order (encoded entry.0) page.0 ≢ Less) page.1 (entries_in right) (parted-at encoded head left page right parted).1 in
          let anchors = subst (All (λ page. IsEncoding is_key encoded page.0)) is map.anchors in
          let keys : keys_of (map_entries head pages) ≡ keys_of (map_entries head (left ++ (page.0, now) ∷ right)) =
          ap (λ l. keys_of (map_entries head l)) is ∙ keys-around page.1
          ∙ ap (λ l. keys_of head ++ (keys_of (entries_in left) ++ (l ++ keys_of (entries_in right)))) (sym same) ∙ sym (keys-around now) in
          subst (IsMap order is_key encoded head) (sym is_now) (record {
            ordered = ordered-of (map_entries head pages) (map_entries head (left ++ (page.0, now) ∷ right)) keys map.ordered;
            keys = keys-same (IsIndexable is_key encoded) (map_entries head pages) (map_entries head (left ++ (page.0, now) ∷ right)) keys map.keys;
            parted = parted-changed encoded head left page now right parted
                (keys-same (λ k. text_order (encoded k) page.0 ≢ Less) page.1 now (sym same) from)
                (over-same page.1 now right (sym same) (over-page encoded head left page right parted));
            anchors = all-put (λ page. IsEncoding is_key encoded page.0) left page (page.0, now) right anchors
                (all-middle (λ page. IsEncoding is_key encoded page.0) left page right anchors);
          })

module _ {K V : Type 0} (head : List (K × V)) (pages : List (List ℕ × List (K × V)))
    (left : List (List ℕ × List (K × V))) (page : List ℕ × List (K × V)) (right : List (List ℕ × List (K × V))) (is : pages ≡ left ++ page ∷ right) where
  -- the entries before a page, in it and behind it
  pub entries-beside : (new : List (List ℕ × List (K × V))) (entries : List (K × V)) → new ≡ left ++ (page.0, entries) ∷ right
      → map_entries head new ≡ (head ++ entries_in left) ++ (entries ++ entries_in right)
  entries-beside new entries now =
      ap (map_entries head) now ∙ ap (λ l. head ++ l) (entries-around left (page.0, entries) right) ∙ sym (append_assoc head (entries_in left) (entries ++ entries_in right))

module _ {K : Type 0} (cmp : K → K → Ordering) (total : IsTotalOrder cmp) (key : K) where
  -- a key is equal to itself
  pub equal-itself : cmp key key ≡ Equal
  equal-itself = by_order (cmp key key) (total.antisymm key key)
    where
      by_order : (o : Ordering) → o ≡ ordering_reverse o → o ≡ Equal
      by_order Less same = absurd (cc)
      by_order Equal same = refl
      by_order Greater same = absurd (cc)

  -- of two inserts of a key the later has the value
  pub insert-twice : {V : Type 0} (entries : List (K × V)) (first value : V) → insert_entry cmp (insert_entry cmp entries key first) key value ≡ insert_entry cmp entries key value
  insert-twice {V = V} [] first value = ap (λ o. match_ordering o ((key, value) ∷ (key, first) ∷ []) ((key, value) ∷ []) ((key, first) ∷ (key, value) ∷ [])) equal-itself
  insert-twice {V = V} (e ∷ entries) first value = by_order (cmp key e.0) refl (insert-twice entries first value)
    where
      by_order : (o : Ordering) → cmp key e.0 ≡ o → insert_entry cmp (insert_entry cmp entries key first) key value ≡ insert_entry cmp entries key value
          → insert_entry cmp (match_ordering o ((key, first) ∷ e ∷ entries) ((e.0, first) ∷ entries) (e ∷ insert_entry cmp entries key first)) key value
          ≡ match_ordering o ((key, value) ∷ e ∷ entries) ((e.0, value) ∷ entries) (e ∷ insert_entry cmp entries key value)
      by_order Less is later = ap (λ o. match_ordering o ((key, value) ∷ (key, first) ∷ e ∷ entries) ((key, value) ∷ e ∷ entries) ((key, first) ∷ insert_entry cmp (e ∷ entries) key value)) equal-itself
      by_order Equal is later = ap (λ o. match_ordering o ((key, value) ∷ (e.0, first) ∷ entries) ((e.0, value) ∷ entries) ((e.0, first) ∷ insert_entry cmp entries key value)) is
      by_order Greater is later =
          ap (λ o. match_ordering o ((key, value) ∷ e ∷ insert_entry cmp entries key first) ((e.0, value) ∷ insert_entry cmp entries key first) (e ∷ insert_entry cmp (insert_entry cmp entries key first) key value)) is
          ∙ ap (λ l. e ∷ l) later

  -- what was inserted is found
  pub get-inserted : {V : Type 0} (entries : List (K × V)) (value : V) → get_by (cmp key) (insert_entry cmp entries key value) ≡ Some value
  get-inserted {V = V} [] value = ap (λ o. cond (is_eq o) (Some value) None) equal-itself
  get-inserted {V = V} (e ∷ entries) value = by_order (cmp key e.0) refl (get-inserted entries value)
    where
      by_order : (o : Ordering) → cmp key e.0 ≡ o → get_by (cmp key) (insert_entry cmp entries key value) ≡ Some value
          → get_by (cmp key) (match_ordering o ((key, value) ∷ e ∷ entries) ((e.0, value) ∷ entries) (e ∷ insert_entry cmp entries key value)) ≡ Some value
      by_order Less is later = ap (λ o. cond (is_eq o) (Some value) (get_by (cmp key) (e ∷ entries))) equal-itself
      by_order Equal is later = ap (λ o. cond (is_eq o) (Some value) (get_by (cmp key) entries)) is
      by_order Greater is later = ap (λ o. cond (is_eq o) (Some e.1) (get_by (cmp key) (insert_entry cmp entries key value))) is ∙ later

  -- what entries are once a key was looked for and added, with another value
  module _ {V : Type 0} (made : V → Type 0) (old new : List (K × V)) (more : ℕ) (entered : HaveKeyNow cmp key made old new more) where
    pub entered-inserts : (value : V) → insert_entry cmp new key value ≡ insert_entry cmp old key value
    entered-inserts value = by_case entered
      where
        by_case : HaveKeyNow cmp key made old new more → insert_entry cmp new key value ≡ insert_entry cmp old key value
        by_case (inl (none, same, some)) = ap (λ l. insert_entry cmp l key value) same
        by_case (inr (one, none, (first, is_made, is))) = ap (λ l. insert_entry cmp l key value) is ∙ insert-twice old first value

    pub entered-value : (value : V) → get_by (cmp key) new ≡ Some value → UnwrapsOrElse (get_by (cmp key) old) made value
    entered-value value is_now = by_case entered
      where
        by_case : HaveKeyNow cmp key made old new more → UnwrapsOrElse (get_by (cmp key) old) made value
        by_case (inl (none, same, some)) = subst (λ o. UnwrapsOrElse o made value) (sym (ap (get_by (cmp key)) (sym same) ∙ is_now)) refl
        by_case (inr (one, none, (first, is_made, is))) =
            let so : first ≡ value = same_Some first value (sym (get-inserted old first) ∙ ap (get_by (cmp key)) (sym is) ∙ is_now) in
            subst (λ o. UnwrapsOrElse o made value) (sym none) (subst made so is_made)

    pub entered-length : (len : ℕ) → len ≡ length old → len + more ≡ length new
    entered-length len is_len = by_case entered
      where
        by_case : HaveKeyNow cmp key made old new more → len + more ≡ length new
        by_case (inl (none, same, some)) = let longer = ap length same in omega (arith, none, longer, is_len)
        by_case (inr (one, none, (first, is_made, is))) =
            let longer = ap length is ∙ length-added cmp key first old none in omega (arith, one, longer, is_len)

-- what came of a key that had no entry
module _ {K V S E : Type 0} (cmp : K → K → Ordering) (key : K) (made : V → Type 0) (more : S → ℕ) (old new : List (K × V)) (value : V) (none : get_by (cmp key) old ≡ None) (is_made : made value) where
  pub entered-new : (r : Result S E) → IfOk r (λ spot. more spot ≡ 1) → OnOk r (new ≡ insert_entry cmp old key value) → IfOk r (λ spot. HaveKeyNow cmp key made old new (more spot))
  entered-new (Ok spot) one is = inr (one, none, (value, is_made, is))
  entered-new (Err fault) one is = tt

-- at a value, and where there is none
module _ {X : Type 0} (o : Option X) where
  pub some-so : (x : X) (P : X → Type 0) → o ≡ Some x → P x → IfSome o P
  some-so x P is = subst (λ p. IfSome p P) (sym is)

  pub none-so : (P : X → Type 0) → o ≡ None → IfSome o P
  none-so P is = subst (λ p. IfSome p P) (sym is) tt

-- without an entry that passes nothing is set
pub set-absent : {K V : Type 0} (test : K → Bool) (entries : List (K × V)) (value : V) → lookup test entries ≡ None → set_value test entries value ≡ entries
set-absent test [] value none = refl
set-absent test (e ∷ entries) value none = by_test (test e.0) (set-absent test entries value) none
  where
    by_test : (t : Bool) → (lookup test entries ≡ None → set_value test entries value ≡ entries) → cond t (Some e.1) (lookup test entries) ≡ None
        → cond t ((e.0, value) ∷ entries) (e ∷ set_value test entries value) ≡ e ∷ entries
    by_test true rest wrong = absurd (cc)
    by_test false rest none = ap (λ l. e ∷ l) (rest none)
