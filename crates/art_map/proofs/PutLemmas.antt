-- An entry put into the page where it belongs: the pages are still those of a map, and the map has the entry.
use Rattle.std.proofs.Common.{◌≡◌, ◌≢◌, ◌∙◌, ℕ, List, [], ◌∷◌, ◌++◌, All, Option, Result, Ok, Err, IfOk, OnOk, OnErr, append_assoc, sym, ap, subst}
use Rattle.std.proofs.lemmas.List.Elements.{All-nil, All-cons, All-head, All-tail}
use Rattle.std.specs.BTreeMap.{insert_entry}
use Rattle.std.specs.Cmp.{IsTotalOrder}
use Rattle.std.specs.declared.cmp.Ordering.{Ordering}
use Rattle.std.specs.declared.cmp.Ordering.TheVariants.{Less, Greater}
use Rattle.art_bytes.specs.Text.{text_order}
use Rattle.art_bytes.proofs.TextLaws.{less_turned, greater_turned}
use Rattle.art_pages.specs.Entries.{IsOrdered, IsIndexable, AreKeys, get_by}
use Rattle.art_pages.proofs.MiddleLemmas.{insert_entry-middle}
use Rattle.art_pages.proofs.OrderLemmas.{ordered-same}
use Rattle.art_map.specs.Pages.{entries_in, map_entries, AnchorsAbove, KeysBelow, KeysFrom, AreParted, IsEncoding, IsMap}
use Rattle.art_map.proofs.PartLemmas.{AgreesBy, parted-at, All-left, above-head, below-page, above-page}
use Rattle.art_map.proofs.ChangeLemmas.{AreOver, entries-around, parted-changed, parted-before, parted-over, over-page, all-put, all-middle}
use Rattle.art_map.proofs.EntryLemmas.{all-inserted, ordered-inserted}

module _ {K V : Type 0} (order cmp : K → K → Ordering) (same : order ≡ cmp) (total : IsTotalOrder cmp) (is_key : K → Type 0) (encoded : K → List ℕ)
    (key : K) (value : V) (key_is : IsIndexable is_key encoded key) (law : AgreesBy is_key encoded (cmp key) (encoded key)) where
  -- the key is below the anchors that are above it
  over-inserted : (entries : List (K × V)) (pages : List (List ℕ × List (K × V))) → AreOver encoded entries pages → AnchorsAbove (encoded key) pages
      → AreOver encoded (insert_entry cmp entries key value) pages
  over-inserted entries [] over above = All-nil (λ page. KeysBelow encoded page.0 (insert_entry cmp entries key value))
  over-inserted entries (page ∷ pages) over above =
      All-cons (λ page. KeysBelow encoded page.0 (insert_entry cmp entries key value)) page pages
      (all-inserted cmp key value (λ k. text_order (encoded k) page.0 ≡ Less) entries (All-head (λ page. KeysBelow encoded page.0 entries) page pages over)
      (greater_turned page.0 (encoded key) (All-head (λ page. text_order page.0 (encoded key) ≡ Greater) page pages above)))
      (over-inserted entries pages (All-tail (λ page. KeysBelow encoded page.0 entries) page pages over) (All-tail (λ page. text_order page.0 (encoded key) ≡ Greater) page pages above))

  ordered-anew : (old new : List (K × V)) → new ≡ insert_entry cmp old key value → IsOrdered order old → IsOrdered order new
  ordered-anew old new is ordered =
      subst (IsOrdered order) (sym is) (ordered-same cmp order (insert_entry cmp old key value) (sym same)
      (ordered-inserted cmp key value total old (ordered-same order cmp old same ordered)))

  keys-anew : (old new : List (K × V)) → new ≡ insert_entry cmp old key value → AreKeys is_key encoded old → AreKeys is_key encoded new
  keys-anew old new is keys =
      subst (AreKeys is_key encoded) (sym is) (all-inserted cmp key value (IsIndexable is_key encoded) old keys key_is)

  module _ (head : List (K × V)) (pages : List (List ℕ × List (K × V))) (map : IsMap order is_key encoded head pages) where
    -- into the first page
    module _ (above : AnchorsAbove (encoded key) pages) where
      pub head-entries : map_entries (insert_entry cmp head key value) pages ≡ insert_entry cmp (map_entries head pages) key value
      head-entries =
          sym (insert_entry-middle cmp key value [] head (entries_in pages) (All-nil (λ entry. cmp key entry.0 ≡ Greater))
          (above-head is_key encoded (cmp key) (encoded key) law order head pages map above))

      pub head-map : IsMap order is_key encoded (insert_entry cmp head key value) pages
      head-map = record {
        ordered = ordered-anew (map_entries head pages) (map_entries (insert_entry cmp head key value) pages) head-entries map.ordered;
        keys = keys-anew (map_entries head pages) (map_entries (insert_entry cmp head key value) pages) head-entries map.keys;
        parted = parted-before encoded head (insert_entry cmp head key value) pages map.parted (over-inserted head pages (parted-over encoded head pages map.parted) above);
        anchors = map.anchors;
      }

    -- into the page under the last anchor that is not above the key
    module _ (left : List (List ℕ × List (K × V))) (page : List ℕ × List (K × V)) (right : List (List ℕ × List (K × V))) (is : pages ≡ left ++ page ∷ right)
        (low : text_order page.0 (encoded key) ≢ Greater) (above : AnchorsAbove (encoded key) right) where
      around : (entries : List (K × V)) → map_entries head (left ++ (page.0, entries) ∷ right) ≡ (head ++ entries_in left) ++ (entries ++ entries_in right)
      around entries = ap (λ l. head ++ l) (entries-around left (page.0, entries) right) ∙ sym (append_assoc head (entries_in left) (entries ++ entries_in right))

      pub page-entries : map_entries head (left ++ (page.0, insert_entry cmp page.1 key value) ∷ right) ≡ insert_entry cmp (map_entries head pages) key value
      page-entries =
          around (insert_entry cmp page.1 key value)
          ∙ sym (insert_entry-middle cmp key value (head ++ entries_in left) page.1 (entries_in right)
          (below-page is_key encoded (cmp key) (encoded key) law order head pages map left page right is low above)
          (above-page is_key encoded (cmp key) (encoded key) law order head pages map left page right is low above))
          ∙ ap (λ l. insert_entry cmp l key value) (sym (around page.1) ∙ ap (map_entries head) (sym is))

      pub page-map : IsMap order is_key encoded head (left ++ (page.0, insert_entry cmp page.1 key value) ∷ right)
      page-map =
          let parted = subst (AreParted encoded head) is map.parted in
          let from : KeysFrom encoded page.0 page.1 = All-left (λ entry. text_order (encoded entry.0) page.0 ≢ Less) page.1 (entries_in right) (parted-at encoded head left page right parted).1 in
          let anchors = subst (All (λ page. IsEncoding is_key encoded page.0)) is map.anchors in record {
            ordered = ordered-anew (map_entries head pages) _ page-entries map.ordered;
            keys = keys-anew (map_entries head pages) _ page-entries map.keys;
            parted = parted-changed encoded head left page (insert_entry cmp page.1 key value) right parted
                (all-inserted cmp key value (λ k. text_order (encoded k) page.0 ≢ Less) page.1 from (λ less. low (less_turned (encoded key) page.0 less)))
                (over-inserted page.1 right (over-page encoded head left page right parted) above);
            anchors = all-put (λ page. IsEncoding is_key encoded page.0) left page (page.0, insert_entry cmp page.1 key value) right anchors
                (all-middle (λ page. IsEncoding is_key encoded page.0) left page right anchors);
          }

-- a page that ends with the entry or as it was, by what came of it
module _ {A B : Type 0} (Fact : Type 0) {Changed Same : Type 0} where
  pub by-result : (r : Result A B) → OnOk r Changed → OnErr r Same → (Changed → Fact) → (Same → Fact) → Fact
  by-result (Ok a) changed kept so or = so changed
  by-result (Err b) changed kept so or = or kept

-- a fact of each of two ways to end
pub ok-then : {A B : Type 0} (r : Result A B) {P Q : Type 0} → OnOk r P → (P → Q) → OnOk r Q
ok-then (Ok a) holds so = so holds
ok-then (Err b) holds so = holds

pub err-then : {A B : Type 0} (r : Result A B) {P Q : Type 0} → OnErr r P → (P → Q) → OnErr r Q
err-then (Ok a) holds so = holds
err-then (Err b) holds so = so holds

module _ {K V : Type 0} (order cmp : K → K → Ordering) (same : order ≡ cmp) (total : IsTotalOrder cmp) (is_key : K → Type 0) (encoded : K → List ℕ)
    (key : K) (value : V) (key_is : IsIndexable is_key encoded key) (law : AgreesBy is_key encoded (cmp key) (encoded key))
    (head : List (K × V)) (pages : List (List ℕ × List (K × V))) (map : IsMap order is_key encoded head pages)
    (left : List (List ℕ × List (K × V))) (page : List ℕ × List (K × V)) (right : List (List ℕ × List (K × V))) (is : pages ≡ left ++ page ∷ right)
    (low : text_order page.0 (encoded key) ≢ Greater) (above : AnchorsAbove (encoded key) right)
    {A B : Type 0} (r : Result A B) (entries : List (K × V)) (new : List (List ℕ × List (K × V))) (now : new ≡ left ++ (page.0, entries) ∷ right) where
  with-entry : entries ≡ insert_entry cmp page.1 key value → new ≡ left ++ (page.0, insert_entry cmp page.1 key value) ∷ right
  with-entry put = now ∙ ap (λ l. left ++ (page.0, l) ∷ right) put

  as-before : entries ≡ page.1 → new ≡ pages
  as-before kept = now ∙ ap (λ l. left ++ (page.0, l) ∷ right) kept ∙ sym is

  pub put-map : OnOk r (entries ≡ insert_entry cmp page.1 key value) → OnErr r (entries ≡ page.1) → IsMap order is_key encoded head new
  put-map put kept =
      by-result (IsMap order is_key encoded head new) r put kept
      (λ so. subst (IsMap order is_key encoded head) (sym (with-entry so)) (page-map order cmp same total is_key encoded key value key_is law head pages map left page right is low above))
      (λ so. subst (IsMap order is_key encoded head) (sym (as-before so)) map)

  pub put-entries : OnOk r (entries ≡ insert_entry cmp page.1 key value) → OnOk r (map_entries head new ≡ insert_entry cmp (map_entries head pages) key value)
  put-entries put = ok-then r put (λ so. ap (map_entries head) (with-entry so) ∙ page-entries order cmp same total is_key encoded key value key_is law head pages map left page right is low above)

  pub put-same : OnErr r (entries ≡ page.1) → OnErr r (map_entries head new ≡ map_entries head pages)
  put-same kept = err-then r kept (λ so. ap (map_entries head) (as-before so))

-- the old value is that of the whole map
pub found-then : {K V B : Type 0} (compare : K → Ordering) (r : Result (Option V) B) (entries whole : List (K × V)) → get_by compare entries ≡ get_by compare whole
    → IfOk r (λ old. old ≡ get_by compare entries) → IfOk r (λ old. old ≡ get_by compare whole)
found-then compare (Ok old) entries whole same is = is ∙ same
found-then compare (Err back) entries whole same is = is
