-- What is looked up or changed at a query, where a search has said its place.
use Rattle.std.proofs.Common.{◌≡◌, ◌∙◌, ℕ, zero, suc, ◌+◌, ◌<◌, true, cond, List, [], ◌∷◌, ◌++◌, length, take, drop, get_or, Some, None, Ok, Err, refl, sym, ap, arith}
use Rattle.std.proofs.lemmas.List.{take-append-drop}
use Rattle.std.specs.BTreeMap.{is_at, insert_entry}
use Rattle.std.specs.Map.{remove_entry, set_value}
use Rattle.std.specs.Ordering.{is_eq, match_ordering}
use Rattle.std.specs.Prelude.{slice_get}
use Rattle.std.specs.declared.cmp.Ordering.{Ordering}
use Rattle.std.specs.declared.cmp.Ordering.TheVariants.{Equal}
use Rattle.art_pages.specs.Contents.{set_value_at}
use Rattle.art_pages.specs.Entries.{IsPlaceOf, get_by, get_key_by}
use Rattle.art_pages.proofs.KeptLemmas.{cut-at}
use Rattle.art_pages.proofs.MiddleLemmas.{get_by-middle, get_key_by-middle, remove_entry-middle, set_value-middle, insert_entry-middle}
use Rattle.art_pages.proofs.ValueLemmas.{slice_get-within}

module _ {K V : Type 0} where
  -- entries with a value at an index, cut there
  set_value_at-cut : (entries : List (K × V)) (place : ℕ) (d : K × V) (value : V) → place < length entries
      → set_value_at entries place value ≡ take place entries ++ (((get_or entries place d).0, value) ∷ drop (suc place) entries)
  set_value_at-cut [] place d value within = absurd (omega (arith, within))
  set_value_at-cut (entry ∷ entries) zero d value within = refl
  set_value_at-cut (entry ∷ entries) (suc place) d value within = ap (λ l. entry ∷ l) (set_value_at-cut entries place d value (omega (arith, within)))

  module _ (compare : K → Ordering) (entries : List (K × V)) (place : ℕ) (entry : K × V) (found : IsPlaceOf compare entries (Ok place)) (is : slice_get entries place ≡ Some entry) where
    there : get_or entries place entry ≡ entry
    there = let held = slice_get-within entries place entry found.0 in cc

    cut : entries ≡ take place entries ++ ((entry ∷ []) ++ drop (place + 1) entries)
    cut = cut-at entries place entry found.0 ∙ ap (λ (e : K × V). take place entries ++ ((e ∷ []) ++ drop (place + 1) entries)) there

    equal : compare entry.0 ≡ Equal
    equal = ap (λ (e : K × V). compare e.0) (sym there) ∙ found.1 entry

    passes : is_at compare entry.0 ≡ true
    passes = ap is_eq equal

    pub get_by-found : get_by compare entries ≡ Some entry.1
    get_by-found =
        ap (get_by compare) cut ∙ get_by-middle compare (take place entries) (entry ∷ []) (drop (place + 1) entries) found.2 found.3
        ∙ ap (λ t. cond t (Some entry.1) None) passes

    pub get_key_by-found : get_key_by compare entries ≡ Some entry.0
    get_key_by-found =
        ap (get_key_by compare) cut ∙ get_key_by-middle compare (take place entries) (entry ∷ []) (drop (place + 1) entries) found.2 found.3
        ∙ ap (λ t. cond t (Some entry.0) None) passes

    pub remove_entry-found : remove_entry (is_at compare) entries ≡ take place entries ++ drop (place + 1) entries
    remove_entry-found =
        ap (remove_entry (is_at compare)) cut ∙ remove_entry-middle compare (take place entries) (entry ∷ []) (drop (place + 1) entries) found.2 found.3
        ∙ ap (λ t. take place entries ++ (cond t [] (entry ∷ []) ++ drop (place + 1) entries)) passes

    valued : (value : V) → take place entries ++ (((entry.0, value) ∷ []) ++ drop (place + 1) entries) ≡ set_value_at entries place value
    valued value =
        let more : place + 1 ≡ suc place = omega arith in
        ap (λ n. take place entries ++ (((entry.0, value) ∷ []) ++ drop n entries)) more
        ∙ ap (λ (e : K × V). take place entries ++ (((e.0, value) ∷ []) ++ drop (suc place) entries)) (sym there)
        ∙ sym (set_value_at-cut entries place entry value found.0)

    pub set_value-found : (value : V) → set_value (is_at compare) entries value ≡ set_value_at entries place value
    set_value-found value =
        ap (λ l. set_value (is_at compare) l value) cut ∙ set_value-middle compare (take place entries) (entry ∷ []) (drop (place + 1) entries) found.2 found.3 value
        ∙ ap (λ t. take place entries ++ (cond t ((entry.0, value) ∷ []) (entry ∷ []) ++ drop (place + 1) entries)) passes
        ∙ valued value

  module _ (compare : K → Ordering) (entries : List (K × V)) (place : ℕ) (gap : IsPlaceOf compare entries (Err place)) where
    parted : entries ≡ take place entries ++ ([] ++ drop place entries)
    parted = sym (take-append-drop place entries)

    pub get_by-gap : get_by compare entries ≡ None
    get_by-gap = ap (get_by compare) parted ∙ get_by-middle compare (take place entries) [] (drop place entries) gap.1 gap.2

    pub get_key_by-gap : get_key_by compare entries ≡ None
    get_key_by-gap = ap (get_key_by compare) parted ∙ get_key_by-middle compare (take place entries) [] (drop place entries) gap.1 gap.2

    pub remove_entry-gap : remove_entry (is_at compare) entries ≡ entries
    remove_entry-gap = ap (remove_entry (is_at compare)) parted ∙ remove_entry-middle compare (take place entries) [] (drop place entries) gap.1 gap.2 ∙ sym parted

-- an insert where the key is found: the key stays and takes the value
pub insert_entry-found : {K V : Type 0} (cmp : K → K → Ordering) (key : K) (value : V) (entries : List (K × V)) (place : ℕ) (entry : K × V)
    → IsPlaceOf (cmp key) entries (Ok place) → slice_get entries place ≡ Some entry → insert_entry cmp entries key value ≡ set_value_at entries place value
insert_entry-found {K} {V} cmp key value entries place entry found is =
    ap (λ l. insert_entry cmp l key value) (cut (cmp key) entries place entry found is)
    ∙ insert_entry-middle cmp key value (take place entries) (entry ∷ []) (drop (place + 1) entries) found.2 found.3
    ∙ ap (λ o. take place entries ++ (match_ordering o ((key, value) ∷ entry ∷ []) ((entry.0, value) ∷ []) (entry ∷ (key, value) ∷ []) ++ drop (place + 1) entries)) (equal (cmp key) entries place entry found is)
    ∙ valued (cmp key) entries place entry found is value
