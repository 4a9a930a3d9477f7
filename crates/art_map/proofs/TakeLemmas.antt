-- An entry taken out of the page where it belongs: the pages are still those of a map, and the map has the other entries.
use Rattle.std.proofs.Common.{◌≡◌, ◌≢◌, ◌∙◌, ℕ, Bool, List, [], ◌∷◌, ◌++◌, All, append_assoc, sym, ap, subst}
use Rattle.std.proofs.lemmas.List.{append-nil}
use Rattle.std.proofs.lemmas.List.Elements.{All-nil, All-weaker}
use Rattle.std.specs.BTreeMap.{is_at}
use Rattle.std.specs.Map.{remove_entry}
use Rattle.std.specs.declared.cmp.Ordering.{Ordering}
use Rattle.std.specs.declared.cmp.Ordering.TheVariants.{Less, Greater}
use Rattle.art_bytes.specs.Text.{text_order}
use Rattle.art_pages.specs.Entries.{IsOrdered, IsIndexable, AreKeys}
use Rattle.art_pages.proofs.MiddleLemmas.{remove_entry-middle}
use Rattle.art_pages.proofs.OrderLemmas.{ordered-nil}
use Rattle.art_map.specs.Pages.{entries_in, map_entries, AnchorsAbove, KeysBelow, KeysFrom, AreParted, IsEncoding, IsMap}
use Rattle.art_map.proofs.PartLemmas.{AgreesBy, parted-at, entries_in-append, All-left, above-head, below-page, above-page}
use Rattle.art_map.proofs.ChangeLemmas.{AreOver, entries-around, parted-changed, parted-before, parted-over, parted-without, over-page, all-put, all-middle, all-without}
use Rattle.art_map.proofs.EntryLemmas.{all-removed, ordered-removed}

module _ {K V : Type 0} (order : K → K → Ordering) (is_key : K → Type 0) (encoded : K → List ℕ)
    (compare : K → Ordering) (x : List ℕ) (law : AgreesBy is_key encoded compare x) where
  -- the entries that are left
  abbrev left-of : List (K × V) → List (K × V)
  left-of entries = remove_entry (is_at compare) entries

  over-removed : (entries : List (K × V)) (pages : List (List ℕ × List (K × V))) → AreOver encoded entries pages → AreOver encoded (left-of entries) pages
  over-removed entries pages =
      All-weaker (λ page. KeysBelow encoded page.0 entries) (λ page. KeysBelow encoded page.0 (left-of entries))
      (λ page. all-removed (is_at compare) (λ entry. text_order (encoded entry.0) page.0 ≡ Less) entries) pages

  ordered-left : (old new : List (K × V)) → new ≡ left-of old → IsOrdered order old → IsOrdered order new
  ordered-left old new is ordered = subst (IsOrdered order) (sym is) (ordered-removed (is_at compare) order old ordered)

  keys-left : (old new : List (K × V)) → new ≡ left-of old → AreKeys is_key encoded old → AreKeys is_key encoded new
  keys-left old new is keys = subst (AreKeys is_key encoded) (sym is) (all-removed (is_at compare) (λ entry. IsIndexable is_key encoded entry.0) old keys)

  module _ (head : List (K × V)) (pages : List (List ℕ × List (K × V))) (map : IsMap order is_key encoded head pages) where
    -- out of the first page
    module _ (above : AnchorsAbove x pages) where
      pub head-left : map_entries (left-of head) pages ≡ left-of (map_entries head pages)
      head-left =
          sym (remove_entry-middle compare [] head (entries_in pages) (All-nil (λ entry. compare entry.0 ≡ Greater))
          (above-head is_key encoded compare x law order head pages map above))

      pub head-map : IsMap order is_key encoded (left-of head) pages
      head-map = record {
        ordered = ordered-left (map_entries head pages) (map_entries (left-of head) pages) head-left map.ordered;
        keys = keys-left (map_entries head pages) (map_entries (left-of head) pages) head-left map.keys;
        parted = parted-before encoded head (left-of head) pages map.parted (over-removed head pages (parted-over encoded head pages map.parted));
        anchors = map.anchors;
      }

    -- out of the page under the last anchor that is not above the query
    module _ (left : List (List ℕ × List (K × V))) (page : List ℕ × List (K × V)) (right : List (List ℕ × List (K × V))) (is : pages ≡ left ++ page ∷ right)
        (low : text_order page.0 x ≢ Greater) (above : AnchorsAbove x right) where
      around : (entries : List (K × V)) → map_entries head (left ++ (page.0, entries) ∷ right) ≡ (head ++ entries_in left) ++ (entries ++ entries_in right)
      around entries = ap (λ l. head ++ l) (entries-around left (page.0, entries) right) ∙ sym (append_assoc head (entries_in left) (entries ++ entries_in right))

      with-left : map_entries head (left ++ (page.0, left-of page.1) ∷ right) ≡ left-of (map_entries head pages)
      with-left =
          around (left-of page.1)
          ∙ sym (remove_entry-middle compare (head ++ entries_in left) page.1 (entries_in right)
          (below-page is_key encoded compare x law order head pages map left page right is low above)
          (above-page is_key encoded compare x law order head pages map left page right is low above))
          ∙ ap left-of (sym (around page.1) ∙ ap (map_entries head) (sym is))

      map-left : IsMap order is_key encoded head (left ++ (page.0, left-of page.1) ∷ right)
      map-left =
          let parted = subst (AreParted encoded head) is map.parted in
          let from : KeysFrom encoded page.0 page.1 = All-left (λ entry. text_order (encoded entry.0) page.0 ≢ Less) page.1 (entries_in right) (parted-at encoded head left page right parted).1 in
          let anchors = subst (All (λ page. IsEncoding is_key encoded page.0)) is map.anchors in record {
            ordered = ordered-left (map_entries head pages) _ with-left map.ordered;
            keys = keys-left (map_entries head pages) _ with-left map.keys;
            parted = parted-changed encoded head left page (left-of page.1) right parted
                (all-removed (is_at compare) (λ entry. text_order (encoded entry.0) page.0 ≢ Less) page.1 from)
                (over-removed page.1 right (over-page encoded head left page right parted));
            anchors = all-put (λ page. IsEncoding is_key encoded page.0) left page (page.0, left-of page.1) right anchors
                (all-middle (λ page. IsEncoding is_key encoded page.0) left page right anchors);
          }

      -- the pages where these entries are left in it
      module _ (entries : List (K × V)) (taken : entries ≡ left-of page.1) (new : List (List ℕ × List (K × V))) (now : new ≡ left ++ (page.0, entries) ∷ right) where
        without : new ≡ left ++ (page.0, left-of page.1) ∷ right
        without = now ∙ ap (λ l. left ++ (page.0, l) ∷ right) taken

        pub page-left : map_entries head new ≡ left-of (map_entries head pages)
        page-left = ap (map_entries head) without ∙ with-left

        pub page-map : IsMap order is_key encoded head new
        page-map = subst (IsMap order is_key encoded head) (sym without) map-left

-- a map of one page
module _ {K V : Type 0} (order : K → K → Ordering) (is_key : K → Type 0) (encoded : K → List ℕ) (test : K → Bool) where
  pub map-alone : (head new : List (K × V)) → new ≡ remove_entry test head → IsMap order is_key encoded head [] → IsMap order is_key encoded new []
  map-alone head new is map =
      let whole : map_entries new [] ≡ remove_entry test (map_entries head []) = append-nil new ∙ is ∙ ap (remove_entry test) (sym (append-nil head)) in record {
        ordered = subst (IsOrdered order) (sym whole) (ordered-removed test order (map_entries head []) map.ordered);
        keys = subst (AreKeys is_key encoded) (sym whole) (all-removed test (λ entry. IsIndexable is_key encoded entry.0) (map_entries head []) map.keys);
        parted = tt;
        anchors = map.anchors;
      }

-- the pages of a map without one that has no entries
module _ {K V : Type 0} (order : K → K → Ordering) (is_key : K → Type 0) (encoded : K → List ℕ)
    (head : List (K × V)) (pages : List (List ℕ × List (K × V))) (map : IsMap order is_key encoded head pages)
    (left : List (List ℕ × List (K × V))) (page : List ℕ × List (K × V)) (right : List (List ℕ × List (K × V))) (is : pages ≡ left ++ page ∷ right) (empty : page.1 ≡ [])
    (new : List (List ℕ × List (K × V))) (now : new ≡ left ++ right) where
  pub same-without : map_entries head new ≡ map_entries head pages
  same-without =
      ap (λ l. head ++ l) (ap entries_in now ∙ entries_in-append left right ∙ ap (λ l. entries_in left ++ (l ++ entries_in right)) (sym empty)
      ∙ sym (entries-around left page right) ∙ ap entries_in (sym is))

  pub map-without : IsMap order is_key encoded head new
  map-without = record {
    ordered = subst (IsOrdered order) (sym same-without) map.ordered;
    keys = subst (AreKeys is_key encoded) (sym same-without) map.keys;
    parted = subst (AreParted encoded head) (sym now) (parted-without encoded head left page right (subst (AreParted encoded head) is map.parted) empty);
    anchors = subst (All (λ page. IsEncoding is_key encoded page.0)) (sym now)
        (all-without (λ page. IsEncoding is_key encoded page.0) left page right (subst (All (λ page. IsEncoding is_key encoded page.0)) is map.anchors));
  }

-- a map with no entries
pub no-entries : {K V : Type 0} (order : K → K → Ordering) (is_key : K → Type 0) (encoded : K → List ℕ) (head : List (K × V)) → head ≡ [] → IsMap order is_key encoded head []
no-entries {K} {V} order is_key encoded head is =
    subst (λ l. IsMap order is_key encoded l []) (sym is) (record {
      ordered = ordered-nil V order;
      keys = All-nil (λ (entry : K × V). IsIndexable is_key encoded entry.0);
      parted = tt;
      anchors = All-nil (λ page. IsEncoding is_key encoded page.0);
    })
