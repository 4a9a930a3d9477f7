-- An empty page behind all others, under the encoding of a key that is above all entries.
use Rattle.std.proofs.Common.{◌≡◌, ◌≢◌, ◌∙◌, ℕ, ◌<◌, List, [], ◌∷◌, ◌++◌, length, map, append_assoc, append-nil, Bool, true, not, Option, Some, None, is_some, arith, refl, sym, ap, subst}
use Rattle.std.proofs.lemmas.List.{map-append}
use Rattle.std.proofs.lemmas.List.Elements.{All-nil, All-cons, All-head, All-tail, All-weaker, All-append}
use Rattle.std.specs.Cmp.{IsTotalOrder}
use Rattle.std.specs.declared.cmp.Ordering.{Ordering}
use Rattle.std.specs.declared.cmp.Ordering.TheVariants.{Less, Greater}
use Rattle.art_bytes.specs.Text.{text_order}
use Rattle.art_bytes.proofs.TextLaws.{greater_turned, less_turned}
use Rattle.art_keys.specs.Encoding.{SortedBy}
use Rattle.art_keys.specs.EncodingLaws.{sorted_agrees}
use Rattle.art_arena.specs.Arena.{LeafPtr, NodeArena}
use Rattle.art_pages.specs.Contents.{PageContents}
use Rattle.art_pages.specs.Entries.{IsOrdered, AreKeys, IsIndexable}
use Rattle.art_pages.specs.Entries.{AllBelow as KeysUnder}
use Rattle.art_tree.specs.Entries.{entries_of}
use Rattle.art_index.specs.Places.{AllTextsAbove, AllTextsBelow, IsFloor, IsNext, IsPlaced}
use Rattle.art_index.proofs.BranchLemmas.{all-unmapped}
use Rattle.art_map.specs.Pages.{entries_in, map_entries, AnchorsBelow, KeysBelow, KeysFrom, AreParted, IsEncoding, IsMap}
use Rattle.art_map.specs.Trees.{page_of, pages_of}
use Rattle.art_map.proofs.PartLemmas.{All-left, below-page, less-through, parted-at}
use Rattle.art_map.proofs.CutLemmas.{below-encoding, rises}
use Rattle.art_map.proofs.RoomLemmas.{anchors-below}
use Rattle.art_map.proofs.TreeLemmas.{pages, pages-around}

module _ {K V : Type 0} where
  entries-last : (pages : List (List ℕ × List (K × V))) (x : List ℕ) → entries_in (pages ++ (x, []) ∷ []) ≡ entries_in pages
  entries-last [] x = refl
  entries-last (page ∷ pages) x = ap (λ l. page.1 ++ l) (entries-last pages x)

module _ {K V : Type 0} (encoded : K → List ℕ) where
  parted-last : (before : List (K × V)) (pages : List (List ℕ × List (K × V))) (x : List ℕ) → AreParted encoded before pages → KeysBelow encoded x (before ++ entries_in pages) → AnchorsBelow x pages
      → AreParted encoded before (pages ++ (x, []) ∷ [])
  parted-last before [] x parted below anchors =
      (subst (KeysBelow encoded x) (append-nil before) below, All-nil (λ entry. text_order (encoded entry.0) x ≢ Less), All-nil (λ page. text_order page.0 x ≡ Greater), tt)
  parted-last before (page ∷ pages) x parted below anchors = (
    parted.0,
    subst (λ l. KeysFrom encoded page.0 (page.1 ++ l)) (sym (entries-last pages x)) parted.1,
    All-append (λ other. text_order other.0 page.0 ≡ Greater) pages ((x, []) ∷ []) parted.2
        (All-cons (λ other. text_order other.0 page.0 ≡ Greater) (x, []) [] (less_turned page.0 x (All-head (λ page. text_order page.0 x ≡ Less) page pages anchors))
        (All-nil (λ other. text_order other.0 page.0 ≡ Greater))),
    parted-last (before ++ page.1) pages x parted.3 (subst (KeysBelow encoded x) (sym (append_assoc before page.1 (entries_in pages))) below)
        (All-tail (λ page. text_order page.0 x ≡ Less) page pages anchors),
  )

module _ {K V : Type 0} (order cmp : K → K → Ordering) (same : order ≡ cmp) (total : IsTotalOrder cmp) (is_key : K → Type 0) (encoded : K → List ℕ)
    (sorted : (x y : K) → is_key x → is_key y → SortedBy (cmp x y) (encoded x) (encoded y)) (key : K) (key_is : IsIndexable is_key encoded key) {P : ℕ}
    (head : List (K × V)) (old : NodeArena (List ℕ) (PageContents K V) P) (map_is : IsMap order is_key encoded head (pages_of old)) where
  -- an empty page is added behind the others
  module _ (new : NodeArena (List ℕ) (PageContents K V) P) (below : KeysUnder (cmp key) (map_entries head (pages_of old))) (anchors : AnchorsBelow (encoded key) (pages_of old))
      (anchor : List ℕ) (is : anchor ≡ encoded key) (page : PageContents K V) (empty : page.entries ≡ [])
      (added : (left right : List (List ℕ × PageContents K V)) → entries_of (λ anchor. anchor) old ≡ left ++ right → AllTextsBelow (λ anchor. anchor) anchor left → AllTextsAbove (λ anchor. anchor) anchor right
      → entries_of (λ anchor. anchor) new ≡ left ++ (anchor, page) ∷ right) where
    now : pages_of new ≡ pages_of old ++ (encoded key, []) ∷ []
    now =
        ap (map page_of) (added (entries_of (λ anchor. anchor) old) [] (sym (append-nil (entries_of (λ anchor. anchor) old)))
        (all-unmapped (λ page. text_order page.0 anchor ≡ Less) page_of (entries_of (λ anchor. anchor) old) (subst (λ x. AnchorsBelow x (pages_of old)) (sym is) anchors))
        (All-nil (λ leaf. text_order leaf.0 anchor ≡ Greater)))
        ∙ map-append page_of (entries_of (λ anchor. anchor) old) ((anchor, page) ∷ [])
        ∙ (λ i. pages_of old ++ (is i, empty i) ∷ [])

    same-entries : map_entries head (pages_of old ++ (encoded key, []) ∷ []) ≡ map_entries head (pages_of old)
    same-entries = ap (λ l. head ++ l) (entries-last (pages_of old) (encoded key))

    pub last-added : IsMap order is_key encoded head (pages_of new)
    last-added = subst (IsMap order is_key encoded head) (sym now) (record {
      ordered = subst (IsOrdered order) (sym same-entries) map_is.ordered;
      keys = subst (AreKeys is_key encoded) (sym same-entries) map_is.keys;
      parted = parted-last encoded head (pages_of old) (encoded key) map_is.parted
          (below-encoding order cmp same total is_key encoded sorted key key_is.0 (map_entries head (pages_of old)) map_is.keys below) anchors;
      anchors = All-append (λ page. IsEncoding is_key encoded page.0) (pages_of old) ((encoded key, []) ∷ []) map_is.anchors
          (All-cons (λ page. IsEncoding is_key encoded page.0) (encoded key, []) [] (key, key_is.0, refl) (All-nil (λ page. IsEncoding is_key encoded page.0)));
    })

    pub last-entries : map_entries head (pages_of new) ≡ map_entries head (pages_of old)
    last-entries = ap (map_entries head) now ∙ same-entries

  -- a key above all entries of the last page, where it belongs, is above all entries and anchors
  module _ (leaf : LeafPtr (List ℕ) (PageContents K V) P) (floor : IsFloor (λ anchor. anchor) old (encoded key) leaf) (last : floor.place.right ≡ [])
      (some : 0 < length floor.place.entry.1.entries) (below : KeysUnder (cmp key) floor.place.entry.1.entries) where
    around : pages_of old ≡ pages floor.place.left ++ page_of floor.place.entry ∷ []
    around = pages-around old leaf floor.place ∙ ap (λ l. pages floor.place.left ++ page_of floor.place.entry ∷ pages l) last

    whole : map_entries head (pages_of old) ≡ (head ++ entries_in (pages floor.place.left)) ++ floor.place.entry.1.entries
    whole =
        ap (map_entries head) around ∙ ap (λ l. head ++ l) (entries-behind (pages floor.place.left) (page_of floor.place.entry))
        ∙ sym (append_assoc head (entries_in (pages floor.place.left)) floor.place.entry.1.entries)
      where
        entries-behind : (left : List (List ℕ × List (K × V))) (page : List ℕ × List (K × V)) → entries_in (left ++ page ∷ []) ≡ entries_in left ++ page.1
        entries-behind [] page = append-nil page.1
        entries-behind (other ∷ left) page = ap (λ l. other.1 ++ l) (entries-behind left page) ∙ sym (append_assoc other.1 (entries_in left) page.1)

    pub above-last : KeysUnder (cmp key) (map_entries head (pages_of old))
    above-last =
        subst (KeysUnder (cmp key)) (sym whole) (All-append (λ entry. cmp key entry.0 ≡ Greater) (head ++ entries_in (pages floor.place.left)) floor.place.entry.1.entries
        (below-page is_key encoded (cmp key) (encoded key) (λ k is. sorted_agrees (cmp key k) (encoded key) (encoded k) (sorted key k key_is.0 is.0))
        order head (pages_of old) map_is (pages floor.place.left) (page_of floor.place.entry) [] around floor.low (All-nil (λ page. text_order page.0 (encoded key) ≡ Greater))) below)

    parted : AreParted encoded head (pages floor.place.left ++ page_of floor.place.entry ∷ [])
    parted = subst (AreParted encoded head) around map_is.parted

    -- the page has an entry, which is not below its anchor
    own-below : text_order floor.place.entry.0 (encoded key) ≡ Less
    own-below =
        let encodings = below-encoding order cmp same total is_key encoded sorted key key_is.0 (map_entries head (pages_of old)) map_is.keys above-last in
        greater_turned (encoded key) floor.place.entry.0 (by-first floor.place.entry.1.entries some
        (All-right-part (head ++ entries_in (pages floor.place.left)) floor.place.entry.1.entries (subst (KeysBelow encoded (encoded key)) whole encodings))
        (All-left (λ entry. text_order (encoded entry.0) floor.place.entry.0 ≢ Less) floor.place.entry.1.entries [] (parted-at encoded head (pages floor.place.left) (page_of floor.place.entry) [] parted).1))
      where
        All-right-part : (a b : List (K × V)) → KeysBelow encoded (encoded key) (a ++ b) → KeysBelow encoded (encoded key) b
        All-right-part [] b all = all
        All-right-part (e ∷ a) b all = All-right-part a b (All-tail (λ entry. text_order (encoded entry.0) (encoded key) ≡ Less) e (a ++ b) all)

        by-first : (entries : List (K × V)) → 0 < length entries → KeysBelow encoded (encoded key) entries → KeysFrom encoded floor.place.entry.0 entries → text_order (encoded key) floor.place.entry.0 ≡ Greater
        by-first [] some below from = absurd (omega (arith, some))
        by-first (f ∷ entries) some below from =
            rises (encoded key) (encoded f.0) floor.place.entry.0 (text_order (encoded f.0) floor.place.entry.0) refl
            (All-head (λ entry. text_order (encoded entry.0) floor.place.entry.0 ≢ Less) f entries from)
            (less_turned (encoded f.0) (encoded key) (All-head (λ entry. text_order (encoded entry.0) (encoded key) ≡ Less) f entries below))

    pub anchors-under : AnchorsBelow (encoded key) (pages_of old)
    anchors-under =
        subst (AnchorsBelow (encoded key)) (sym around)
        (All-append (λ page. text_order page.0 (encoded key) ≡ Less) (pages floor.place.left) (page_of floor.place.entry ∷ [])
        (All-weaker (λ page. text_order page.0 floor.place.entry.0 ≡ Less) (λ page. text_order page.0 (encoded key) ≡ Less)
        (λ page less. less-through page.0 floor.place.entry.0 (encoded key) (text_order floor.place.entry.0 (encoded key)) refl less floor.low) (pages floor.place.left)
        (anchors-below encoded head (pages floor.place.left) (page_of floor.place.entry) [] parted))
        (All-cons (λ page. text_order page.0 (encoded key) ≡ Less) (page_of floor.place.entry) [] own-below (All-nil (λ page. text_order page.0 (encoded key) ≡ Less))))

-- where there is no next leaf, the leaf is the last one
pub none-next : {K V : Type 0} {P : ℕ} (arena : NodeArena (List ℕ) (PageContents K V) P) (leaf : LeafPtr (List ℕ) (PageContents K V) P) (place : IsPlaced (λ anchor. anchor) arena leaf) (next : Option (LeafPtr (List ℕ) (PageContents K V) P)) (is : Bool)
    → is_some next ≡ not is → is ≡ true → IsNext (λ anchor. anchor) arena place next → place.right ≡ []
none-next arena leaf place None is said none at = at
none-next arena leaf place (Some next) is said none at = let wrong : true ≡ not true = said ∙ ap not none in absurd (cc)
