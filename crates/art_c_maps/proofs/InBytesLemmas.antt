-- Entries with the bytes of each key: calls on the entries are calls on these.
use Rattle.std.proofs.Common.{◌≡◌, Bool, true, false, cond, List, [], ◌∷◌, filter, map, Some, None, refl, ap}
use Rattle.std.specs.BTreeMap.{insert_entry, is_at}
use Rattle.std.specs.Cmp.{IsTotalOrder}
use Rattle.std.specs.List.{AllByRecursion}
use Rattle.std.specs.List.Sorted.{IsStrictlySortedBy}
use Rattle.std.specs.Map.{keys_of, lookup, remove_entry, set_value}
use Rattle.std.specs.Ordering.{is_eq, match_ordering}
use Rattle.std.specs.Prelude.{◌&&◌}
use Rattle.std.specs.declared.cmp.Ordering.{Ordering}
use Rattle.std.specs.declared.cmp.Ordering.TheVariants.{Less, Equal, Greater}
use Rattle.std.proofs.lemmas.List.Elements.{All-head, All-tail}
use Rattle.art_pages.specs.Entries.{AllAbove, IsOrdered}
use Rattle.art_pages.proofs.OrderLemmas.{above-first, ordered-right}

module _ {K J V : Type 0} (read : K → J) where
  abbrev pub entry_read : K × V → J × V
  entry_read entry = (read entry.0, entry.1)

  abbrev pub reading : List (K × V) → List (J × V)
  reading entries = map (λ entry. (read entry.0, entry.1)) entries

  pub value-read : (test : J → Bool) (entries : List (K × V)) → lookup (λ key. test (read key)) entries ≡ lookup test (reading entries)
  value-read test [] = refl
  value-read test (entry ∷ entries) = ap (λ rest. cond (test (read entry.0)) (Some entry.1) rest) (value-read test entries)

  pub without-read : (test : J → Bool) (entries : List (K × V)) → reading (remove_entry (λ key. test (read key)) entries) ≡ remove_entry test (reading entries)
  without-read test [] = refl
  without-read test (entry ∷ entries) = by_test (test (read entry.0)) (without-read test entries)
    where
      by_test : (t : Bool) → reading (remove_entry (λ key. test (read key)) entries) ≡ remove_entry test (reading entries)
          → reading (cond t entries (entry ∷ remove_entry (λ key. test (read key)) entries)) ≡ cond t (reading entries) (entry_read entry ∷ remove_entry test (reading entries))
      by_test true rest = refl
      by_test false rest = ap (λ all. entry_read entry ∷ all) rest

  pub set-read : (test : J → Bool) (entries : List (K × V)) (value : V) → reading (set_value (λ key. test (read key)) entries value) ≡ set_value test (reading entries) value
  set-read test [] value = refl
  set-read test (entry ∷ entries) value = by_test (test (read entry.0)) (set-read test entries value)
    where
      by_test : (t : Bool) → reading (set_value (λ key. test (read key)) entries value) ≡ set_value test (reading entries) value
          → reading (cond t ((entry.0, value) ∷ entries) (entry ∷ set_value (λ key. test (read key)) entries value)) ≡ cond t ((read entry.0, value) ∷ reading entries) (entry_read entry ∷ set_value test (reading entries) value)
      by_test true rest = refl
      by_test false rest = ap (λ all. entry_read entry ∷ all) rest

  pub put-read : (order : J → J → Ordering) (entries : List (K × V)) (key : K) (value : V)
      → reading (insert_entry (λ x y. order (read x) (read y)) entries key value) ≡ insert_entry order (reading entries) (read key) value
  put-read order [] key value = refl
  put-read order (entry ∷ entries) key value =
      by_order (order (read key) (read entry.0)) (insert_entry (λ x y. order (read x) (read y)) entries key value) (insert_entry order (reading entries) (read key) value) (put-read order entries key value)
    where
      by_order : (o : Ordering) (all : List (K × V)) (as_read : List (J × V)) → reading all ≡ as_read
          → reading (match_ordering o ((key, value) ∷ entry ∷ entries) ((entry.0, value) ∷ entries) (entry ∷ all))
          ≡ match_ordering o ((read key, value) ∷ entry_read entry ∷ reading entries) ((read entry.0, value) ∷ reading entries) (entry_read entry ∷ as_read)
      by_order Less all as_read rest = refl
      by_order Equal all as_read rest = refl
      by_order Greater all as_read rest = ap (λ es. entry_read entry ∷ es) rest

  pub picked-read : (p : K → Bool) (q : J → Bool) → ((key : K) → p key ≡ q (read key)) → (entries : List (K × V))
      → reading (filter (λ entry. p entry.0) entries) ≡ filter (λ entry. q entry.0) (reading entries)
  picked-read p q same [] = refl
  picked-read p q same (entry ∷ entries) =
      by_test (p entry.0) (q (read entry.0)) (same entry.0) (filter (λ e. p e.0) entries) (filter (λ e. q e.0) (reading entries)) (picked-read p q same entries)
    where
      by_test : (t u : Bool) → t ≡ u → (all : List (K × V)) (as_read : List (J × V)) → reading all ≡ as_read
          → reading (cond t (entry ∷ all) all) ≡ cond u (entry_read entry ∷ as_read) as_read
      by_test true true is all as_read rest = ap (λ es. entry_read entry ∷ es) rest
      by_test true false is all as_read rest = absurd (cc)
      by_test false true is all as_read rest = absurd (cc)
      by_test false false is all as_read rest = rest

  -- the keys as they are read ascend
  all-read : (P : J → Type 0) (entries : List (K × V)) → AllByRecursion (λ key. P (read key)) (keys_of entries) → AllByRecursion P (keys_of (reading entries))
  all-read P [] all = tt
  all-read P (entry ∷ entries) all = (all.0, all-read P entries all.1)

  pub ordered-read : (order : J → J → Ordering) (entries : List (K × V)) → IsOrdered (λ x y. order (read x) (read y)) entries → IsOrdered order (reading entries)
  unfolding IsStrictlySortedBy
  ordered-read order [] ordered = tt
  ordered-read order (entry ∷ entries) ordered =
      (all-read (λ key. order (read entry.0) key ≡ Less) entries ordered.0, ordered-read order entries ordered.1)

-- a value that is set at a key that is there is put
module _ {K V : Type 0} (order : K → K → Ordering) (total : IsTotalOrder order) where
  none-above : (key first : K) (entries : List (K × V)) → order key first ≡ Less → AllAbove (order first) entries → lookup (is_at (order key)) entries ≡ None
  none-above key first [] less above = refl
  none-above key first (entry ∷ entries) less above =
      let behind : order key entry.0 ≡ Less = total.trans key first entry.0 less (All-head (λ e. order first e.0 ≡ Less) entry entries above) in
      rw behind (none-above key first entries less (All-tail (λ e. order first e.0 ≡ Less) entry entries above))

  pub set-put : (entries : List (K × V)) (key : K) (old value : V) → IsOrdered order entries → lookup (is_at (order key)) entries ≡ Some old
      → set_value (is_at (order key)) entries value ≡ insert_entry order entries key value
  set-put [] key old value ordered found = absurd (cc)
  set-put (entry ∷ entries) key old value ordered found =
      by_order (order key entry.0) refl (set-put entries key old value (ordered-right order (entry ∷ []) entries ordered)) found
    where
      by_order : (o : Ordering) → order key entry.0 ≡ o
          → (lookup (is_at (order key)) entries ≡ Some old → set_value (is_at (order key)) entries value ≡ insert_entry order entries key value)
          → cond (is_eq o) (Some entry.1) (lookup (is_at (order key)) entries) ≡ Some old
          → cond (is_eq o) ((entry.0, value) ∷ entries) (entry ∷ set_value (is_at (order key)) entries value)
          ≡ match_ordering o ((key, value) ∷ entry ∷ entries) ((entry.0, value) ∷ entries) (entry ∷ insert_entry order entries key value)
      by_order Less is rest here = let none = none-above key entry.0 entries is (above-first order entry entries ordered) in absurd (cc)
      by_order Equal is rest here = refl
      by_order Greater is rest here = ap (λ all. entry ∷ all) (rest here)

-- items that pass both tests
pub picked-twice : {X : Type 0} (p q : X → Bool) (xs : List X) → filter (λ x. p x && q x) xs ≡ filter q (filter p xs)
picked-twice {X} p q [] = refl
picked-twice {X} p q (x ∷ xs) = by_test (p x) (filter (λ y. p y && q y) xs) (filter p xs) (picked-twice p q xs)
  where
    by_test : (t : Bool) (both firsts : List X) → both ≡ filter q firsts → cond (t && q x) (x ∷ both) both ≡ filter q (cond t (x ∷ firsts) firsts)
    by_test true both firsts rest = ap (λ ys. cond (q x) (x ∷ ys) ys) rest
    by_test false both firsts rest = rest
