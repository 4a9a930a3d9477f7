-- The first entry of a map taken out: the pages are still those of a map.
use Rattle.std.proofs.Common.{◌≡◌, ◌≢◌, ◌∙◌, refl, ℕ, suc, ◌+◌, ◌-◌, ◌<◌, List, [], ◌∷◌, ◌++◌, length, length-append, All, cond, Option, Some, None, sym, ap, subst, arith}
use Rattle.std.proofs.lemmas.Cmp.{tied_itself}
use Rattle.std.proofs.lemmas.List.{map-append}
use Rattle.std.proofs.lemmas.Option.{same_Some}
use Rattle.std.specs.Prelude.{remove, slice_get}
use Rattle.std.proofs.lemmas.List.Elements.{All-nil, All-cons, All-tail, All-weaker}
use Rattle.std.specs.Cmp.{IsTotalOrder}
use Rattle.std.specs.Ordering.{is_eq, ordering_reverse}
use Rattle.std.specs.declared.cmp.Ordering.{Ordering}
use Rattle.std.specs.declared.cmp.Ordering.TheVariants.{Less, Greater}
use Rattle.art_bytes.specs.Text.{text_order}
use Rattle.art_arena.specs.Arena.{LeafPtr, NodeArena}
use Rattle.art_nodes.specs.Pointers.{slab_key}
use Rattle.art_tree.specs.Entries.{entries_of}
use Rattle.art_index.specs.Places.{IsPlaced, IsFirst, IsLast, IsNext, IsPrevious}
use Rattle.art_pages.specs.Contents.{PageContents}
use Rattle.art_pages.specs.Entries.{IsOrdered, IsIndexable, AreKeys, AllAbove, AllBelow, get_by}
use Rattle.art_pages.proofs.MiddleLemmas.{get_by-middle}
use Rattle.art_pages.proofs.OrderLemmas.{above-first, ordered-right}
use Rattle.art_map.specs.Pages.{entries_in, map_entries, KeysBelow, KeysFrom, AreParted, IsEncoding, IsMap}
use Rattle.art_map.specs.Trees.{page_of}
use Rattle.art_map.specs.Runs.{rank_at}
use Rattle.art_map.specs.Ends.{IsEmptyBefore, IsEmptyBehind}
use Rattle.art_map.proofs.PartLemmas.{parted-at, All-left}
use Rattle.art_map.proofs.ChangeLemmas.{AreOver, entries-around, parted-changed, parted-before, parted-over, over-page, all-put, all-middle}
use Rattle.art_map.proofs.RunLemmas.{entries_last, rank-placed}
use Rattle.art_map.proofs.TreeLemmas.{pages}

module _ {K V : Type 0} (order : K → K → Ordering) (is_key : K → Type 0) (encoded : K → List ℕ) (entry : K × V) where
  over-rest : (entries : List (K × V)) (pages : List (List ℕ × List (K × V))) → AreOver encoded (entry ∷ entries) pages → AreOver encoded entries pages
  over-rest entries pages =
      All-weaker (λ page. KeysBelow encoded page.0 (entry ∷ entries)) (λ page. KeysBelow encoded page.0 entries)
      (λ page. All-tail (λ entry. text_order (encoded entry.0) page.0 ≡ Less) entry entries) pages

  ordered-rest : (old new : List (K × V)) → old ≡ entry ∷ new → IsOrdered order old → IsOrdered order new
  ordered-rest old new is ordered = ordered-right order (entry ∷ []) new (subst (IsOrdered order) is ordered)

  keys-rest : (old new : List (K × V)) → old ≡ entry ∷ new → AreKeys is_key encoded old → AreKeys is_key encoded new
  keys-rest old new is keys = All-tail (λ entry. IsIndexable is_key encoded entry.0) entry new (subst (AreKeys is_key encoded) is keys)

  module _ (head : List (K × V)) (pages : List (List ℕ × List (K × V))) (map : IsMap order is_key encoded head pages) where
    -- out of the first page
    module _ (rest : List (K × V)) (is : head ≡ entry ∷ rest) where
      pub first-of-head : map_entries head pages ≡ entry ∷ map_entries rest pages
      first-of-head = ap (λ l. map_entries l pages) is

      pub head-rest : IsMap order is_key encoded rest pages
      head-rest = record {
        ordered = ordered-rest (map_entries head pages) (map_entries rest pages) first-of-head map.ordered;
        keys = keys-rest (map_entries head pages) (map_entries rest pages) first-of-head map.keys;
        parted = parted-before encoded head rest pages map.parted
            (over-rest rest pages (subst (λ l. AreOver encoded l pages) is (parted-over encoded head pages map.parted)));
        anchors = map.anchors;
      }

    -- out of the first page with entries
    module _ (none : head ≡ []) (left : List (List ℕ × List (K × V))) (page : List ℕ × List (K × V)) (right : List (List ℕ × List (K × V))) (is : pages ≡ left ++ page ∷ right)
        (none-left : entries_in left ≡ []) (rest : List (K × V)) (first : page.1 ≡ entry ∷ rest) (new : List (List ℕ × List (K × V))) (now : new ≡ left ++ (page.0, rest) ∷ right) where
      begins : (entries : List (K × V)) → map_entries head (left ++ (page.0, entries) ∷ right) ≡ entries ++ entries_in right
      begins entries =
          ap (λ l. head ++ l) (entries-around left (page.0, entries) right) ∙ ap (λ l. l ++ (entries_in left ++ (entries ++ entries_in right))) none
          ∙ ap (λ l. l ++ (entries ++ entries_in right)) none-left

      pub first-of-page : map_entries head pages ≡ entry ∷ map_entries head new
      first-of-page =
          ap (map_entries head) is ∙ begins page.1 ∙ ap (λ l. l ++ entries_in right) first
          ∙ ap (λ l. entry ∷ l) (sym (begins rest) ∙ ap (map_entries head) (sym now))

      pub page-rest : IsMap order is_key encoded head new
      page-rest =
          let parted = subst (AreParted encoded head) is map.parted in
          let from : KeysFrom encoded page.0 page.1 = All-left (λ entry. text_order (encoded entry.0) page.0 ≢ Less) page.1 (entries_in right) (parted-at encoded head left page right parted).1 in
          let anchors = subst (All (λ page. IsEncoding is_key encoded page.0)) is map.anchors in record {
            ordered = ordered-rest (map_entries head pages) (map_entries head new) first-of-page map.ordered;
            keys = keys-rest (map_entries head pages) (map_entries head new) first-of-page map.keys;
            parted = subst (AreParted encoded head) (sym now) (parted-changed encoded head left page rest right parted
                (All-tail (λ entry. text_order (encoded entry.0) page.0 ≢ Less) entry rest (subst (KeysFrom encoded page.0) first from))
                (over-rest rest right (subst (λ l. AreOver encoded l right) first (over-page encoded head left page right parted))));
            anchors = subst (All (λ page. IsEncoding is_key encoded page.0)) (sym now)
                (all-put (λ page. IsEncoding is_key encoded page.0) left page (page.0, rest) right anchors
                (all-middle (λ page. IsEncoding is_key encoded page.0) left page right anchors));
          }

module _ {K V : Type 0} {P : ℕ} (arena : NodeArena (List ℕ) (PageContents K V) P) where
  abbrev Leaf : Type 0
  Leaf = LeafPtr (List ℕ) (PageContents K V) P

  abbrev list : List (List ℕ × PageContents K V)
  list = entries_of (λ anchor. anchor) arena

  -- how many leaves there are from this one on
  abbrev pub leaves-left : Option Leaf → ℕ
  leaves-left None = 0
  leaves-left (Some leaf) = length list - rank_at arena (slab_key leaf)

  -- no page is before the first one
  pub first-before : (first : Option Leaf) → IsFirst (λ anchor. anchor) arena first → IsEmptyBefore arena first
  first-before None none = ap (λ l. entries_in (pages l)) none
  first-before (Some leaf) (here, none) = (here, ap (λ l. entries_in (pages l)) none)

  module _ (leaf : Leaf) (here : IsPlaced (λ anchor. anchor) arena leaf) where
    -- behind an empty page
    module _ (none : entries_in (pages here.left) ≡ []) (empty : here.entry.1.entries ≡ []) where
      before-next : (entries_in (pages (here.left ++ here.entry ∷ []))) ≡ []
      before-next =
          ap entries_in (map-append page_of here.left (here.entry ∷ [])) ∙ entries_last (pages here.left) (page_of here.entry)
          ∙ ap (λ l. l ++ here.entry.1.entries) none ∙ empty

      pub next-before : (next : Option Leaf) → IsNext (λ anchor. anchor) arena here next → IsEmptyBefore arena next
      next-before None last = ap (λ l. entries_in (pages l)) (here.list ∙ ap (λ l. here.left ++ here.entry ∷ l) last) ∙ before-next
      next-before (Some next) (there, is, behind) = (there, ap (λ l. entries_in (pages l)) is ∙ before-next)

    within : length list ≡ length here.left + suc (length here.right)
    within = ap length here.list ∙ length-append here.left (here.entry ∷ here.right)

    -- fewer leaves are left
    pub next-fewer : (next : Option Leaf) → IsNext (λ anchor. anchor) arena here next → leaves-left next < leaves-left (Some leaf)
    next-fewer None last = let at = rank-placed arena leaf here in let long = within in omega arith
    next-fewer (Some next) (there, is, behind) =
        let at = rank-placed arena leaf here in let long = within in
        let then = rank-placed arena next there in let more = ap length is ∙ length-append here.left (here.entry ∷ []) in omega arith

module _ {K V : Type 0} {P : ℕ} (arena : NodeArena (List ℕ) (PageContents K V) P) where
  -- how many leaves there are up to this one
  abbrev pub leaves-up-to : Option (LeafPtr (List ℕ) (PageContents K V) P) → ℕ
  leaves-up-to None = 0
  leaves-up-to (Some leaf) = suc (rank_at arena (slab_key leaf))

  -- no page is behind the last one
  pub last-behind : (last : Option (LeafPtr (List ℕ) (PageContents K V) P)) → IsLast (λ anchor. anchor) arena last → IsEmptyBehind arena last
  last-behind None none = ap (λ l. entries_in (pages l)) none
  last-behind (Some leaf) (here, none) = (here, ap (λ l. entries_in (pages l)) none)

  module _ (leaf : LeafPtr (List ℕ) (PageContents K V) P) (here : IsPlaced (λ anchor. anchor) arena leaf) where
    -- before an empty page
    module _ (none : entries_in (pages here.right) ≡ []) (empty : here.entry.1.entries ≡ []) where
      behind-previous : entries_in (pages (here.entry ∷ here.right)) ≡ []
      behind-previous = ap (λ l. l ++ entries_in (pages here.right)) empty ∙ none

      pub previous-behind : (previous : Option (LeafPtr (List ℕ) (PageContents K V) P)) → IsPrevious (λ anchor. anchor) arena here previous → IsEmptyBehind arena previous
      previous-behind None first = ap (λ l. entries_in (pages l)) (here.list ∙ ap (λ l. l ++ here.entry ∷ here.right) first) ∙ behind-previous
      previous-behind (Some previous) (there, is, behind) = (there, ap (λ l. entries_in (pages l)) behind ∙ behind-previous)

    -- fewer leaves are left
    pub previous-fewer : (previous : Option (LeafPtr (List ℕ) (PageContents K V) P)) → IsPrevious (λ anchor. anchor) arena here previous → leaves-up-to previous < leaves-up-to (Some leaf)
    previous-fewer None first = omega arith
    previous-fewer (Some previous) (there, is, behind) =
        let at = rank-placed arena leaf here in let then = rank-placed arena previous there in
        let more = ap length is ∙ length-append there.left (there.entry ∷ []) in omega arith

module _ {X : Type 0} where
  pub some-there : (l : List X) → l ≢ [] → 0 < length l
  some-there [] some = absurd (some refl)
  some-there (x ∷ l) some = omega arith

  -- the first item, and those that are left without it
  pub first-and-rest : (l rest : List X) (first : X) → slice_get l 0 ≡ Some first → rest ≡ remove l 0 → l ≡ first ∷ rest
  first-and-rest [] rest first is left = absurd (cc)
  first-and-rest (x ∷ l) rest first is left = ap (λ y. y ∷ l) (same_Some x first is) ∙ ap (λ m. first ∷ m) (sym left)

  pub length-rest : (l rest : List X) (first : X) → l ≡ first ∷ rest → (n : ℕ) → n ≡ length l → n - 1 ≡ length rest
  length-rest l rest first is n counted = let long = ap length is in omega arith

  -- the last item, and those that are left without it
  pub last-and-rest : (l rest : List X) (last : X) (n : ℕ) → n ≡ length l → slice_get l (n - 1) ≡ Some last → rest ≡ remove l (n - 1) → l ≡ rest ++ last ∷ []
  last-and-rest [] rest last n counted is left = absurd (cc)
  last-and-rest (x ∷ []) rest last n counted is left =
      let first : n - 1 ≡ 0 = omega (arith, counted) in
      let here : slice_get (x ∷ []) 0 ≡ Some last = subst (λ m. slice_get (x ∷ []) m ≡ Some last) first is in
      ap (λ y. y ∷ []) (same_Some x last here) ∙ ap (λ m. m ++ last ∷ []) (sym (left ∙ ap (remove (x ∷ [])) first))
  last-and-rest (x ∷ y ∷ l) rest last n counted is left =
      let more : n - 1 ≡ suc (length l) = omega (arith, counted) in
      let here : slice_get (y ∷ l) (length l) ≡ Some last = subst (λ m. slice_get (x ∷ y ∷ l) m ≡ Some last) more is in
      let fewer : suc (length l) - 1 ≡ length l = omega arith in
      let later = last-and-rest (y ∷ l) (remove (y ∷ l) (length l)) last (suc (length l)) refl
      (ap (slice_get (y ∷ l)) fewer ∙ here) (ap (remove (y ∷ l)) (sym fewer)) in
      ap (λ m. x ∷ m) later ∙ ap (λ m. m ++ last ∷ []) (sym (left ∙ ap (remove (x ∷ y ∷ l)) more))

  pub length-first : (l rest : List X) (last : X) → l ≡ rest ++ last ∷ [] → (n : ℕ) → n ≡ length l → n - 1 ≡ length rest
  length-first l rest last is n counted = let long = ap length is ∙ length-append rest (last ∷ []) in omega arith

module _ {K V : Type 0} (cmp : K → K → Ordering) (total : IsTotalOrder cmp) where
  -- the value of the first key, and those above it
  pub value-first : (l rest : List (K × V)) (first : K × V) → l ≡ first ∷ rest → get_by (cmp first.0) l ≡ Some first.1
  value-first l rest first is = ap (get_by (cmp first.0)) is ∙ ap (λ o. cond (is_eq o) (Some first.1) (get_by (cmp first.0) rest)) (tied_itself total first.0)

  pub above-others : (l rest : List (K × V)) (first : K × V) → l ≡ first ∷ rest → IsOrdered cmp l → AllAbove (cmp first.0) rest
  above-others l rest first is ordered = above-first cmp first rest (subst (IsOrdered cmp) is ordered)

  -- the same of the last one
  below-last : (rest : List (K × V)) (last : K × V) → IsOrdered cmp (rest ++ last ∷ []) → AllBelow (cmp last.0) rest
  below-last [] last ordered = All-nil (λ entry. cmp last.0 entry.0 ≡ Greater)
  below-last (other ∷ rest) last ordered =
      let above = above-first cmp other (rest ++ last ∷ []) ordered in
      let less : cmp other.0 last.0 ≡ Less = all-middle (λ entry. cmp other.0 entry.0 ≡ Less) rest last [] above in
      All-cons (λ entry. cmp last.0 entry.0 ≡ Greater) other rest (total.antisymm last.0 other.0 ∙ ap ordering_reverse less)
      (below-last rest last (ordered-right cmp (other ∷ []) (rest ++ last ∷ []) ordered))

  pub below-others : (l rest : List (K × V)) (last : K × V) → l ≡ rest ++ last ∷ [] → IsOrdered cmp l → AllBelow (cmp last.0) rest
  below-others l rest last is ordered = below-last rest last (subst (IsOrdered cmp) is ordered)

  pub value-last : (l rest : List (K × V)) (last : K × V) → l ≡ rest ++ last ∷ [] → IsOrdered cmp l → get_by (cmp last.0) l ≡ Some last.1
  value-last l rest last is ordered =
      ap (get_by (cmp last.0)) is
      ∙ get_by-middle (cmp last.0) rest (last ∷ []) [] (below-others l rest last is ordered) (All-nil (λ entry. cmp last.0 entry.0 ≡ Less))
      ∙ value-first (last ∷ []) [] last refl

module _ {X : Type 0} where
  pub longer-first : (l rest : List X) (first : X) → l ≡ first ∷ rest → length rest + 1 ≡ length l
  longer-first l rest first is = let long = ap length is in omega arith

  pub longer-last : (l rest : List X) (last : X) → l ≡ rest ++ last ∷ [] → length rest + 1 ≡ length l
  longer-last l rest last is = let long = ap length is ∙ length-append rest (last ∷ []) in omega arith
