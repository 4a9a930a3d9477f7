-- Lists of entries to which one is added, or from which one is taken: what holds of their keys, and their order.
use Rattle.std.proofs.Common.{◌≡◌, ◌∙◌, ℕ, suc, ◌+◌, ◌-◌, ◌≤◌, ◌^◌, Bool, true, false, cond, List, [], ◌∷◌, length, All, Some, None, refl, sym, ap, arith}
use Rattle.std.proofs.lemmas.List.Elements.{All-nil, All-cons, All-head, All-tail}
use Rattle.std.specs.BTreeMap.{insert_entry}
use Rattle.std.specs.Cmp.{IsTotalOrder}
use Rattle.std.specs.Map.{lookup, remove_entry}
use Rattle.std.specs.Ordering.{is_eq, match_ordering, ordering_reverse}
use Rattle.std.specs.declared.cmp.Ordering.{Ordering}
use Rattle.std.specs.declared.cmp.Ordering.TheVariants.{Less, Equal, Greater}
use Rattle.art_bytes.proofs.TextLaws.{same_order}
use Rattle.art_keys.specs.Encoding.{SortedBy}
use Rattle.art_keys.specs.EncodingLaws.{order_of_encodings}
use Rattle.art_pages.specs.Entries.{IsOrdered, IsIndexable, AreKeys, AllAbove, get_by}
use Rattle.art_pages.proofs.MiddleLemmas.{get_by-middle}
use Rattle.art_pages.proofs.OrderLemmas.{ordered-cons, ordered-right, above-first}

module _ {K V : Type 0} (cmp : K → K → Ordering) (key : K) (value : V) where
  -- what holds of the keys and of another one holds with that one added
  pub all-inserted : (P : K → Type 0) (entries : List (K × V)) → All (λ entry. P entry.0) entries → P key → All (λ entry. P entry.0) (insert_entry cmp entries key value)
  all-inserted P [] all is = All-cons (λ entry. P entry.0) (key, value) [] is all
  all-inserted P (e ∷ entries) all is = by_order (cmp key e.0) (all-inserted P entries (All-tail (λ entry. P entry.0) e entries all) is)
    where
      first : P e.0
      first = All-head (λ entry. P entry.0) e entries all

      rest : All (λ entry. P entry.0) entries
      rest = All-tail (λ entry. P entry.0) e entries all

      by_order : (o : Ordering) → All (λ entry. P entry.0) (insert_entry cmp entries key value) → All (λ entry. P entry.0) (match_ordering o ((key, value) ∷ e ∷ entries) ((e.0, value) ∷ entries) (e ∷ insert_entry cmp entries key value))
      by_order Less later = All-cons (λ entry. P entry.0) (key, value) (e ∷ entries) is all
      by_order Equal later = All-cons (λ entry. P entry.0) (e.0, value) entries first rest
      by_order Greater later = All-cons (λ entry. P entry.0) e (insert_entry cmp entries key value) first later

  -- with an entry added the keys still ascend
  pub ordered-inserted : IsTotalOrder cmp → (entries : List (K × V)) → IsOrdered cmp entries → IsOrdered cmp (insert_entry cmp entries key value)
  ordered-inserted total [] ordered = ordered-cons cmp (key, value) [] (All-nil (λ entry. cmp key entry.0 ≡ Less)) ordered
  ordered-inserted total (e ∷ entries) ordered = by_order (cmp key e.0) refl (ordered-inserted total entries (ordered-right cmp (e ∷ []) entries ordered))
    where
      rest : IsOrdered cmp entries
      rest = ordered-right cmp (e ∷ []) entries ordered

      above : AllAbove (cmp e.0) entries
      above = above-first cmp e entries ordered

      climbs : cmp key e.0 ≡ Less → (entries : List (K × V)) → AllAbove (cmp e.0) entries → AllAbove (cmp key) entries
      climbs less [] high = All-nil (λ entry. cmp key entry.0 ≡ Less)
      climbs less (x ∷ entries) high =
          All-cons (λ entry. cmp key entry.0 ≡ Less) x entries (total.trans key e.0 x.0 less (All-head (λ entry. cmp e.0 entry.0 ≡ Less) x entries high))
          (climbs less entries (All-tail (λ entry. cmp e.0 entry.0 ≡ Less) x entries high))

      by_order : (o : Ordering) → cmp key e.0 ≡ o → IsOrdered cmp (insert_entry cmp entries key value) → IsOrdered cmp (match_ordering o ((key, value) ∷ e ∷ entries) ((e.0, value) ∷ entries) (e ∷ insert_entry cmp entries key value))
      by_order Less is later = ordered-cons cmp (key, value) (e ∷ entries) (All-cons (λ entry. cmp key entry.0 ≡ Less) e entries is (climbs is entries above)) ordered
      by_order Equal is later = ordered-cons cmp (e.0, value) entries above rest
      by_order Greater is later =
          ordered-cons cmp e (insert_entry cmp entries key value)
          (all-inserted (λ k. cmp e.0 k ≡ Less) entries above (total.antisymm e.0 key ∙ ap ordering_reverse is))
          later

module _ {K V : Type 0} (test : K → Bool) where
  -- what holds of all entries holds of those that are left
  pub all-removed : (P : K × V → Type 0) (entries : List (K × V)) → All P entries → All P (remove_entry test entries)
  all-removed P [] all = all
  all-removed P (e ∷ entries) all = by_test (test e.0) (all-removed P entries (All-tail P e entries all))
    where
      rest : All P entries
      rest = All-tail P e entries all

      by_test : (t : Bool) → All P (remove_entry test entries) → All P (cond t entries (e ∷ remove_entry test entries))
      by_test true later = rest
      by_test false later = All-cons P e (remove_entry test entries) (All-head P e entries all) later

  -- the keys that are left ascend
  pub ordered-removed : (cmp : K → K → Ordering) (entries : List (K × V)) → IsOrdered cmp entries → IsOrdered cmp (remove_entry test entries)
  ordered-removed cmp [] ordered = ordered
  ordered-removed cmp (e ∷ entries) ordered = by_test (test e.0) (ordered-removed cmp entries (ordered-right cmp (e ∷ []) entries ordered))
    where
      rest : IsOrdered cmp entries
      rest = ordered-right cmp (e ∷ []) entries ordered

      by_test : (t : Bool) → IsOrdered cmp (remove_entry test entries) → IsOrdered cmp (cond t entries (e ∷ remove_entry test entries))
      by_test true later = rest
      by_test false later =
          ordered-cons cmp e (remove_entry test entries) (all-removed (λ entry. cmp e.0 entry.0 ≡ Less) entries (above-first cmp e entries ordered)) later

module _ {K V : Type 0} (cmp : K → K → Ordering) (key : K) (value : V) where
  -- a new key makes one entry more
  pub length-added : (entries : List (K × V)) → get_by (cmp key) entries ≡ None → length (insert_entry cmp entries key value) ≡ length entries + 1
  length-added [] none = omega arith
  length-added (e ∷ entries) none = by_order (cmp key e.0) none (λ later. length-added entries later)
    where
      by_order : (o : Ordering) → cond (is_eq o) (Some e.1) (get_by (cmp key) entries) ≡ None → (get_by (cmp key) entries ≡ None → length (insert_entry cmp entries key value) ≡ length entries + 1)
          → length (match_ordering o ((key, value) ∷ e ∷ entries) ((e.0, value) ∷ entries) (e ∷ insert_entry cmp entries key value)) ≡ suc (length entries) + 1
      by_order Less none later = omega arith
      by_order Equal none later = absurd (cc)
      by_order Greater none later = let longer = later none in omega arith

  -- a key that is there makes none
  pub length-replaced : IsTotalOrder cmp → (entries : List (K × V)) (old : V) → IsOrdered cmp entries → get_by (cmp key) entries ≡ Some old
      → length (insert_entry cmp entries key value) ≡ length entries
  length-replaced total [] old ordered some = absurd (cc)
  length-replaced total (e ∷ entries) old ordered some =
      by_order (cmp key e.0) refl some (λ later. length-replaced total entries old (ordered-right cmp (e ∷ []) entries ordered) later)
    where
      climbs : cmp key e.0 ≡ Less → (entries : List (K × V)) → AllAbove (cmp e.0) entries → AllAbove (cmp key) entries
      climbs less [] high = All-nil (λ entry. cmp key entry.0 ≡ Less)
      climbs less (x ∷ entries) high =
          All-cons (λ entry. cmp key entry.0 ≡ Less) x entries (total.trans key e.0 x.0 less (All-head (λ entry. cmp e.0 entry.0 ≡ Less) x entries high))
          (climbs less entries (All-tail (λ entry. cmp e.0 entry.0 ≡ Less) x entries high))

      none : cmp key e.0 ≡ Less → get_by (cmp key) entries ≡ None
      none less = get_by-middle (cmp key) [] [] entries (All-nil (λ entry. cmp key entry.0 ≡ Greater)) (climbs less entries (above-first cmp e entries ordered))

      by_order : (o : Ordering) → cmp key e.0 ≡ o → cond (is_eq o) (Some e.1) (get_by (cmp key) entries) ≡ Some old
          → (get_by (cmp key) entries ≡ Some old → length (insert_entry cmp entries key value) ≡ length entries)
          → length (match_ordering o ((key, value) ∷ e ∷ entries) ((e.0, value) ∷ entries) (e ∷ insert_entry cmp entries key value)) ≡ suc (length entries)
      by_order Less is some later = let missing = none is in absurd (cc)
      by_order Equal is some later = refl
      by_order Greater is some later = ap suc (later some)

module _ {K V : Type 0} (test : K → Bool) where
  -- a removal of a key that is there leaves one entry fewer
  pub length-removed : (entries : List (K × V)) (old : V) → lookup test entries ≡ Some old → length (remove_entry test entries) + 1 ≡ length entries
  length-removed [] old some = absurd (cc)
  length-removed (e ∷ entries) old some = by_test (test e.0) some (λ later. length-removed entries old later)
    where
      by_test : (t : Bool) → cond t (Some e.1) (lookup test entries) ≡ Some old → (lookup test entries ≡ Some old → length (remove_entry test entries) + 1 ≡ length entries)
          → length (cond t entries (e ∷ remove_entry test entries)) + 1 ≡ suc (length entries)
      by_test true some later = omega arith
      by_test false some later = let shorter = later some in omega arith

  -- a removal of a key that is not there leaves them as they were
  pub same-removed : (entries : List (K × V)) → lookup test entries ≡ None → remove_entry test entries ≡ entries
  same-removed [] none = refl
  same-removed (e ∷ entries) none = by_test (test e.0) none (λ later. same-removed entries later)
    where
      by_test : (t : Bool) → cond t (Some e.1) (lookup test entries) ≡ None → (lookup test entries ≡ None → remove_entry test entries ≡ entries)
          → cond t entries (e ∷ remove_entry test entries) ≡ e ∷ entries
      by_test true none later = absurd (cc)
      by_test false none later = ap (λ l. e ∷ l) (later none)

module _ {K V : Type 0} (test : K → Bool) (entries left : List (K × V)) (is : left ≡ remove_entry test entries) where
  -- how many are left where one is taken
  pub length-taken : (old : V) → Some old ≡ lookup test entries → length left + 1 ≡ length entries
  length-taken old some = ap (λ (l : List (K × V)). length l + 1) is ∙ length-removed test entries old (sym some)

  pub length-left : (old : V) → Some old ≡ lookup test entries → (n : ℕ) → n ≡ length entries → n - 1 ≡ length left
  length-left old some n counted = let shorter = length-taken old some in omega arith

  -- all are left where none is taken
  pub none-taken : None ≡ lookup test entries → left ≡ entries
  none-taken none = is ∙ same-removed test entries (sym none)

-- a key whose encoding is too long is not there
pub too-long-absent : {K V : Type 0} (cmp : K → K → Ordering) (is_key : K → Type 0) (encoded : K → List ℕ) (key : K)
    → ((x y : K) → is_key x → is_key y → SortedBy (cmp x y) (encoded x) (encoded y)) → is_key key → 2 ^ 32 ≤ length (encoded key)
    → (entries : List (K × V)) → AreKeys is_key encoded entries → get_by (cmp key) entries ≡ None
too-long-absent cmp is_key encoded key sorted key_is long [] keys = refl
too-long-absent cmp is_key encoded key sorted key_is long (e ∷ entries) keys =
    by_order (cmp key e.0) refl (too-long-absent cmp is_key encoded key sorted key_is long entries (All-tail (λ entry. IsIndexable is_key encoded entry.0) e entries keys))
  where
    is : IsIndexable is_key encoded e.0
    is = All-head (λ entry. IsIndexable is_key encoded entry.0) e entries keys

    same : cmp key e.0 ≡ Equal → encoded key ≡ encoded e.0
    same tied = same_order (encoded key) (encoded e.0) (sym (order_of_encodings (cmp key e.0) (encoded key) (encoded e.0) (sorted key e.0 key_is is.0)) ∙ tied)

    by_order : (o : Ordering) → cmp key e.0 ≡ o → get_by (cmp key) entries ≡ None → cond (is_eq o) (Some e.1) (get_by (cmp key) entries) ≡ None
    by_order Less tied later = later
    by_order Equal tied later = let alike = ap length (same tied) in let short = is.1 in absurd (omega arith)
    by_order Greater tied later = later
