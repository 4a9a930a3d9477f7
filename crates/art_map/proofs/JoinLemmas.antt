-- The entries of a page, moved to the end of the page before it: the pages are still those of a map, with the same entries.
use Rattle.std.proofs.Common.{◌≡◌, ◌∙◌, ℕ, ◌+◌, ◌≤◌, List, [], ◌∷◌, ◌++◌, All, length, append_assoc, sym, ap, subst}
use Rattle.std.proofs.lemmas.List.Elements.{All-cons, All-append}
use Rattle.std.specs.declared.cmp.Ordering.{Ordering}
use Rattle.art_arena.specs.Arena.{LeafPtr, NodeArena}
use Rattle.art_index.specs.Places.{IsPlaced}
use Rattle.art_pages.specs.Contents.{PageContents}
use Rattle.art_pages.specs.Entries.{IsOrdered, AreKeys}
use Rattle.art_pages.proofs.OrderLemmas.{ordered-left, ordered-right, ordered-same}
use Rattle.art_map.specs.Joins.{AreJoinable}
use Rattle.art_map.specs.Pages.{entries_in, map_entries, AreParted, IsEncoding, IsMap}
use Rattle.art_map.specs.Trees.{page_of, pages_of}
use Rattle.art_map.proofs.ChangeLemmas.{all-front, all-middle, all-around, entries-around, parted-joined}
use Rattle.art_map.proofs.TreeLemmas.{pages, pages-around, pages-changed}

module _ {K V : Type 0} (order : K → K → Ordering) (is_key : K → Type 0) (encoded : K → List ℕ)
    (head : List (K × V)) (pages : List (List ℕ × List (K × V))) (map : IsMap order is_key encoded head pages)
    (left : List (List ℕ × List (K × V))) (page next : List ℕ × List (K × V)) (right : List (List ℕ × List (K × V))) (is : pages ≡ left ++ page ∷ next ∷ right) where
  -- the entries of both pages, with those before them and those behind them
  parts : map_entries head pages ≡ (head ++ entries_in left) ++ ((page.1 ++ next.1) ++ entries_in right)
  parts =
      ap (map_entries head) is ∙ ap (λ l. head ++ l) (entries-around left page (next ∷ right))
      ∙ ap (λ l. head ++ (entries_in left ++ l)) (sym (append_assoc page.1 next.1 (entries_in right)))
      ∙ sym (append_assoc head (entries_in left) ((page.1 ++ next.1) ++ entries_in right))

  pub ordered-both : (cmp : K → K → Ordering) → order ≡ cmp → IsOrdered cmp (page.1 ++ next.1)
  ordered-both cmp same =
      ordered-left cmp (page.1 ++ next.1) (entries_in right)
      (ordered-right cmp (head ++ entries_in left) ((page.1 ++ next.1) ++ entries_in right)
      (ordered-same order cmp ((head ++ entries_in left) ++ ((page.1 ++ next.1) ++ entries_in right)) same (subst (IsOrdered order) parts map.ordered)))

  module _ (new : List (List ℕ × List (K × V))) (now : new ≡ left ++ (page.0, page.1 ++ next.1) ∷ right) where
    pub same-joined : map_entries head new ≡ map_entries head pages
    same-joined =
        ap (map_entries head) now ∙ ap (λ l. head ++ l) (entries-around left (page.0, page.1 ++ next.1) right)
        ∙ sym (append_assoc head (entries_in left) ((page.1 ++ next.1) ++ entries_in right)) ∙ sym parts

    pub map-joined : IsMap order is_key encoded head new
    map-joined =
        let Own : List ℕ × List (K × V) → Type 0 = λ page. IsEncoding is_key encoded page.0 in
        let anchors = subst (All Own) is map.anchors in record {
          ordered = subst (IsOrdered order) (sym same-joined) map.ordered;
          keys = subst (AreKeys is_key encoded) (sym same-joined) map.keys;
          parted = subst (AreParted encoded head) (sym now) (parted-joined encoded head left page next right (subst (AreParted encoded head) is map.parted));
          anchors = subst (All Own) (sym now)
              (All-append Own left ((page.0, page.1 ++ next.1) ∷ right) (all-front Own left (page ∷ next ∷ right) anchors)
              (All-cons Own (page.0, page.1 ++ next.1) right (all-middle Own left page (next ∷ right) anchors)
              (all-around Own (left ++ page ∷ []) next right (subst (All Own) (sym (append_assoc left (page ∷ []) (next ∷ right))) anchors))));
        }

module _ {K V : Type 0} {P : ℕ} (arena : NodeArena (List ℕ) (PageContents K V) P) (first second : LeafPtr (List ℕ) (PageContents K V) P) where
  -- two pages beside each other can be joined, as the first one has memory for the entries of both
  pub joinable : (low : IsPlaced (λ anchor. anchor) arena first) (high : IsPlaced (λ anchor. anchor) arena second)
      → high.left ≡ low.left ++ low.entry ∷ [] → low.right ≡ high.entry ∷ high.right
      → (one other : PageContents K V) → one ≡ low.entry.1 → other ≡ high.entry.1 → length one.entries + length other.entries ≤ one.capacity
      → AreJoinable arena first second
  joinable low high left right one other one_is other_is room = record {
    low = low;
    high = high;
    left = left;
    right = right;
    room = subst (λ (p : PageContents K V). length p.entries + length high.entry.1.entries ≤ p.capacity) one_is
        (subst (λ (p : PageContents K V). length one.entries + length p.entries ≤ one.capacity) other_is room);
  }

module _ {K V : Type 0} {P : ℕ} (old : NodeArena (List ℕ) (PageContents K V) P) (first second : LeafPtr (List ℕ) (PageContents K V) P) (two : AreJoinable old first second) where
  beside : pages_of old ≡ pages two.low.left ++ page_of two.low.entry ∷ page_of two.high.entry ∷ pages two.high.right
  beside = pages-around old first two.low ∙ ap (λ l. pages two.low.left ++ page_of two.low.entry ∷ pages l) two.right

  -- the two pages, as they are when the second one is out of the tree
  module _ (low high : PageContents K V) (low_is : low ≡ two.low.entry.1) (high_is : high.entries ≡ two.high.entry.1.entries) where
    pub room-there : length low.entries + length high.entries ≤ low.capacity
    room-there =
        subst (λ (p : PageContents K V). length p.entries + length high.entries ≤ p.capacity) (sym low_is)
        (subst (λ (l : List (K × V)). length two.low.entry.1.entries + length l ≤ two.low.entry.1.capacity) (sym high_is) two.room)

    module _ (order : K → K → Ordering) (is_key : K → Type 0) (encoded : K → List ℕ) (head : List (K × V)) (map_is : IsMap order is_key encoded head (pages_of old)) where
      pub ordered-leaves : (cmp : K → K → Ordering) → order ≡ cmp → IsOrdered cmp (low.entries ++ high.entries)
      ordered-leaves cmp same =
          subst (λ (p : PageContents K V). IsOrdered cmp (p.entries ++ high.entries)) (sym low_is)
          (subst (λ (l : List (K × V)). IsOrdered cmp (two.low.entry.1.entries ++ l)) (sym high_is)
          (ordered-both order is_key encoded head (pages_of old) map_is (pages two.low.left) (page_of two.low.entry) (page_of two.high.entry) (pages two.high.right) beside cmp same))

      -- and then all entries are in the first one
      module _ (mid new : NodeArena (List ℕ) (PageContents K V) P) (whole : PageContents K V) (whole_is : whole.entries ≡ low.entries ++ high.entries)
          (stays : (now : IsPlaced (λ anchor. anchor) mid first) × (now.left ≡ two.low.left) × (now.entry ≡ two.low.entry) × (now.right ≡ two.high.right))
          (changed : (now : IsPlaced (λ anchor. anchor) new first) × (now.left ≡ stays.0.left) × (now.entry ≡ (stays.0.entry.0, whole)) × (now.right ≡ stays.0.right)) where
        entries-are : whole.entries ≡ two.low.entry.1.entries ++ two.high.entry.1.entries
        entries-are = whole_is ∙ (λ i. (low_is i).entries ++ high_is i)

        now-pages : pages_of new ≡ pages two.low.left ++ (two.low.entry.0, two.low.entry.1.entries ++ two.high.entry.1.entries) ∷ pages two.high.right
        now-pages =
            pages-changed mid new first whole stays.0 changed
            ∙ (λ i. pages (stays.1 i) ++ ((stays.2 i).0, entries-are i) ∷ pages (stays.3 i))

        pub leaves-joined : IsMap order is_key encoded head (pages_of new)
        leaves-joined =
            map-joined order is_key encoded head (pages_of old) map_is (pages two.low.left) (page_of two.low.entry) (page_of two.high.entry) (pages two.high.right) beside
            (pages_of new) now-pages

        pub leaves-same : map_entries head (pages_of new) ≡ map_entries head (pages_of old)
        leaves-same =
            same-joined order is_key encoded head (pages_of old) map_is (pages two.low.left) (page_of two.low.entry) (page_of two.high.entry) (pages two.high.right) beside
            (pages_of new) now-pages
