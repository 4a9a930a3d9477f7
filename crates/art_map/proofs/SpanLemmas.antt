-- Places between the entries of a map, and the entries between two of them.
use Rattle.std.proofs.Common.{◌≡◌, ◌≢◌, ◌∙◌, ℕ, suc, ◌+◌, ◌<◌, ◌≤◌, Bool, true, false, List, [], ◌∷◌, ◌++◌, length, length-append, map, take, drop, Option, Some, None, append_assoc, refl, sym, ap, subst, arith}
use Rattle.std.proofs.lemmas.List.{append-nil, map-append, same_from_push, take_at}
use Rattle.std.proofs.lemmas.List.Elements.{All-nil}
use Rattle.std.specs.Ordering.{is_lt, match_ordering}
use Rattle.std.specs.declared.cmp.Ordering.{Ordering}
use Rattle.std.specs.declared.cmp.Ordering.TheVariants.{Less, Equal, Greater}
use Rattle.art_bytes.specs.Text.{text_order}
use Rattle.art_bytes.proofs.TextLaws.{Ascend, greater_turned, less_differs, order_itself, same_order}
use Rattle.art_nodes.specs.Pointers.{slab_key}
use Rattle.art_arena.specs.Arena.{LeafPtr, NodeArena}
use Rattle.art_tree.proofs.EntryLaws.{are-entries}
use Rattle.art_tree.specs.Entries.{entries_of}
use Rattle.art_index.proofs.PlaceLemmas.{parts-same}
use Rattle.art_index.specs.Places.{IsPlaced}
use Rattle.art_pages.specs.Contents.{PageContents}
use Rattle.art_map.specs.Gaps.{IsSeat, is_behind}
use Rattle.art_map.specs.Pages.{entries_in, map_entries}
use Rattle.art_map.specs.Runs.{IsRun, entries_left, pages_between, rank, rank_at}
use Rattle.art_map.specs.Seats.{IsGapOf, IsInPage, seat_place}
use Rattle.art_map.specs.Trees.{page_of, pages_of}
use Rattle.art_map.proofs.ChangeLemmas.{entries-around}
use Rattle.art_map.proofs.PartLemmas.{less-through}
use Rattle.art_map.proofs.RunLemmas.{cut-first, rank-of, rank-placed, run-parts}
use Rattle.art_map.proofs.TreeLemmas.{pages, pages-around}
use Rattle.art_map.proofs.WithinLemmas.{ahead, between-across, between-inside, gap-inside, up-to}

-- ranks rise with texts
module _ {X : Type 0} (x y : List ℕ) (low : text_order x y ≢ Greater) where
  rank-step : (item : List ℕ × X) (l : List (List ℕ × X)) (o : Ordering) → text_order item.0 x ≡ o → rank x l ≤ rank y l → rank x (item ∷ l) ≤ rank y (item ∷ l)
  rank-step item l Less is later =
      let here : rank x (item ∷ l) ≡ suc (rank x l) = ap (λ o. match_ordering o (suc (rank x l)) 0 0) is in
      let there : rank y (item ∷ l) ≡ suc (rank y l) =
      ap (λ o. match_ordering o (suc (rank y l)) 0 0) (less-through item.0 x y (text_order x y) refl is low) in
      omega (arith, here, there, later)
  rank-step item l Equal is later = let here : rank x (item ∷ l) ≡ 0 = ap (λ o. match_ordering o (suc (rank x l)) 0 0) is in omega (arith, here)
  rank-step item l Greater is later = let here : rank x (item ∷ l) ≡ 0 = ap (λ o. match_ordering o (suc (rank x l)) 0 0) is in omega (arith, here)

  pub rank-rises : (l : List (List ℕ × X)) → rank x l ≤ rank y l
  rank-rises [] = omega arith
  rank-rises (item ∷ l) = rank-step item l (text_order item.0 x) refl (rank-rises l)

module _ {K V : Type 0} {P : ℕ} (head : List (K × V)) (arena : NodeArena (List ℕ) (PageContents K V) P) where
  abbrev Leaf : Type 0
  Leaf = LeafPtr (List ℕ) (PageContents K V) P

  abbrev Placed : Leaf → Type 0
  Placed leaf = IsPlaced (λ anchor. anchor) arena leaf

  abbrev list : List (List ℕ × PageContents K V)
  list = entries_of (λ anchor. anchor) arena

  abbrev whole : List (K × V)
  whole = map_entries head (pages_of arena)

  -- the place of an index of the page of a leaf, and the entries around that page
  pub place-at : (leaf : Leaf) (here : Placed leaf) (index : ℕ) → seat_place head arena (Some leaf) index ≡ length (head ++ entries_in (pages here.left)) + index
  place-at leaf here index =
      ap (λ n. length (head ++ entries_in (map page_of (take n list))) + index) (rank-placed arena leaf here)
      ∙ ap (λ l. length (head ++ entries_in (map page_of l)) + index)
      (ap (take (length here.left)) here.list ∙ take_at here.left (here.entry ∷ here.right) (length here.left) refl)

  pub whole-at : (leaf : Leaf) (here : Placed leaf) → map_entries head (pages_of arena) ≡ (head ++ entries_in (pages here.left)) ++ (here.entry.1.entries ++ entries_in (pages here.right))
  whole-at leaf here =
      ap (λ l. head ++ l) (ap entries_in (pages-around arena leaf here) ∙ entries-around (pages here.left) (page_of here.entry) (pages here.right))
      ∙ sym (append_assoc head (entries_in (pages here.left)) (here.entry.1.entries ++ entries_in (pages here.right)))

  -- the gap of a query among all entries
  module _ (compare : K → Ordering) (after : Bool) where
    abbrev behind : K × V → Bool
    behind entry = is_behind compare after entry.0

    pub seat-gap : (leaf : Option Leaf) (index : ℕ) → IsSeat compare after head arena leaf index → IsGapOf behind (map_entries head (pages_of arena)) (seat_place head arena leaf index)
    seat-gap None index (gap, rest) =
        let same : 0 + index ≡ index = omega arith in
        subst (IsGapOf behind whole) same
        (gap-inside [] head (entries_in (pages_of arena)) index gap.0 behind (All-nil (λ entry. behind entry ≡ false)) (gap.1, gap.2) rest)
    seat-gap (Some leaf) index (here, first, gap, rest) =
        subst (IsGapOf behind whole) (sym (place-at leaf here index))
        (subst (λ l. IsGapOf behind l (length (head ++ entries_in (pages here.left)) + index)) (sym (whole-at leaf here))
        (gap-inside (head ++ entries_in (pages here.left)) here.entry.1.entries (entries_in (pages here.right)) index gap.0 behind first (gap.1, gap.2) rest))

    pub seat-inside : (leaf : Option Leaf) (index : ℕ) → IsSeat compare after head arena leaf index → IsInPage head arena leaf index
    seat-inside None index (gap, rest) = gap.0
    seat-inside (Some leaf) index (here, first, gap, rest) = (here, gap.0)

  -- the place behind all entries
  pub end-at-last : (leaf : Leaf) (last : (here : Placed leaf) × (here.right ≡ [])) → seat_place head arena (Some leaf) (length last.0.entry.1.entries) ≡ length (map_entries head (pages_of arena))
  end-at-last leaf (here, none) =
      let entries = here.entry.1.entries in
      place-at leaf here (length entries)
      ∙ sym (length-append (head ++ entries_in (pages here.left)) entries)
      ∙ ap (λ l. length ((head ++ entries_in (pages here.left)) ++ l)) (sym (append-nil entries) ∙ ap (λ l. entries ++ entries_in (pages l)) (sym none))
      ∙ ap length (sym (whole-at leaf here))

  pub end-of-head : entries_of (λ anchor. anchor) arena ≡ [] → length head ≡ length (map_entries head (pages_of arena))
  end-of-head none = ap length (sym (append-nil head) ∙ ap (λ l. head ++ entries_in (pages l)) (sym none))

  -- ranks say which of two pages is first
  module _ (leaf other : Leaf) (here : Placed leaf) (there : Placed other) where
    ascending : Ascend (map (λ e. e.0) list)
    ascending = (are-entries (λ anchor. anchor) arena).ascending

    rank-text : (one : Leaf) (at : Placed one) → rank_at arena (slab_key one) ≡ rank at.entry.0 list
    rank-text one at =
        rank-placed arena one at
        ∙ sym (ap (rank at.entry.0) at.list ∙ rank-of at.left at.entry at.right (subst (λ l. Ascend (map (λ e. e.0) l)) at.list ascending))

    pub rank-low : text_order here.entry.0 there.entry.0 ≢ Greater → rank_at arena (slab_key leaf) ≤ rank_at arena (slab_key other)
    rank-low low =
        let one = rank-text leaf here in let two = rank-text other there in
        let rises = rank-rises here.entry.0 there.entry.0 low list in omega (arith, one, two, rises)

    same-text : length here.left ≡ length there.left → here.entry.0 ≡ there.entry.0
    same-text long =
        let parts = parts-same here.left (here.entry ∷ here.right) there.left (there.entry ∷ there.right) long (sym here.list ∙ there.list) in
        let rest = parts.1 in
        let same : here.entry ≡ there.entry = cc in ap (λ e. e.0) same

    pub rank-below : text_order here.entry.0 there.entry.0 ≡ Less → rank_at arena (slab_key leaf) < rank_at arena (slab_key other)
    rank-below less =
        let not_greater : text_order here.entry.0 there.entry.0 ≢ Greater = λ greater. (let clash : Less ≡ Greater = sym less ∙ greater in cc) in
        let low = rank-low not_greater in
        let one = rank-placed arena leaf here in let two = rank-placed arena other there in
        let apart : length here.left ≢ length there.left = λ long. less_differs here.entry.0 there.entry.0 less (same-text long) in
        omega (arith, low, one, two, apart)

    -- the place in a page is not behind that in a later one
    pub places-rise : rank_at arena (slab_key leaf) < rank_at arena (slab_key other) → (i j : ℕ) → i ≤ length here.entry.1.entries
        → seat_place head arena (Some leaf) i ≤ seat_place head arena (Some other) j
    places-rise first i j inside =
        let one = rank-placed arena leaf here in let two = rank-placed arena other there in
        let (between, is) = ahead here.left here.entry here.right there.left there.entry there.right (sym here.list ∙ there.list) (omega (arith, first, one, two)) in
        let more = ap (λ l. length (entries_in (map page_of l))) is
        ∙ ap (λ l. length (entries_in l)) (map-append page_of here.left (here.entry ∷ between))
        ∙ ap length (entries-around (pages here.left) (page_of here.entry) (pages between))
        ∙ length-append (entries_in (pages here.left)) (here.entry.1.entries ++ entries_in (pages between)) in
        let also = length-append here.entry.1.entries (entries_in (pages between)) in
        let at = place-at leaf here i in let then = place-at other there j in
        let long = length-append head (entries_in (pages here.left)) in
        let longer = length-append head (entries_in (pages there.left)) in
        omega (arith, more, also, at, then, long, longer, inside)

  -- the order of two anchors says which page is first
  module _ (leaf other : Leaf) (here : Placed leaf) (there : Placed other) where
    pub before-by-text : is_lt (text_order here.entry.0 there.entry.0) ≡ true → rank_at arena (slab_key leaf) < rank_at arena (slab_key other)
    before-by-text said = by (text_order here.entry.0 there.entry.0) refl said
      where
        by : (o : Ordering) → text_order here.entry.0 there.entry.0 ≡ o → is_lt o ≡ true → rank_at arena (slab_key leaf) < rank_at arena (slab_key other)
        by Less is said = rank-below leaf other here there is
        by Equal is said = absurd (cc)
        by Greater is said = absurd (cc)

    pub behind-by-text : is_lt (text_order here.entry.0 there.entry.0) ≡ false → rank_at arena (slab_key other) ≤ rank_at arena (slab_key leaf)
    behind-by-text said = rank-low other leaf there here (by (text_order here.entry.0 there.entry.0) refl said)
      where
        by : (o : Ordering) → text_order here.entry.0 there.entry.0 ≡ o → is_lt o ≡ false → text_order there.entry.0 here.entry.0 ≢ Greater
        by Less is said = absurd (cc)
        by Equal is said = λ greater.
            let same = same_order here.entry.0 there.entry.0 is in
            let turned : text_order there.entry.0 here.entry.0 ≡ Equal = ap (λ x. text_order there.entry.0 x) same ∙ order_itself there.entry.0 in
            let clash : Equal ≡ Greater = sym turned ∙ greater in cc
        by Greater is said = λ greater.
            let turned = greater_turned here.entry.0 there.entry.0 is in
            let clash : Less ≡ Greater = sym turned ∙ greater in cc

  -- a run begins at the first leaf, or at one that is not behind the last
  pub first-low : (first last : Leaf) (here : Placed first) (there : Placed last) → here.left ≡ [] → length here.left ≤ length there.left
  first-low first last here there none = let long = ap length none in omega (arith, long)

  pub later-low : (first last : Leaf) (here : Placed first) (there : Placed last) → rank_at arena (slab_key first) ≤ rank_at arena (slab_key last) → length here.left ≤ length there.left
  later-low first last here there low = let one = rank-placed arena first here in let two = rank-placed arena last there in omega (arith, low, one, two)

  pub none-placed : (leaf : Leaf) → Placed leaf → entries_of (λ anchor. anchor) arena ≡ [] → ⊥
  none-placed leaf here none =
      let long = ap length (sym none ∙ here.list) ∙ length-append here.left (here.entry ∷ here.right) in omega (arith, long)

  -- a place in the first page is not behind one in a page of the tree
  pub places-after-head : (leaf : Leaf) (here : Placed leaf) (i j : ℕ) → j ≤ length head → j ≤ seat_place head arena (Some leaf) i
  places-after-head leaf here i j inside =
      let at = place-at leaf here i in let long = length-append head (entries_in (pages here.left)) in omega (arith, at, long, inside)

  module _ (first last : Leaf) (run : IsRun arena first last) where
    -- the first page of a run, and the pages up to the last one
    pub run-first : (page : List ℕ × List (K × V)) (rest : List (List ℕ × List (K × V))) → pages_between arena first last ≡ page ∷ rest → page_of run.begins.entry ≡ page
    run-first page rest taken =
        let begins = run-parts arena first last run
        ∙ ap (λ l. map page_of (drop (length run.begins.left) (take (suc (length run.ends.left)) l))) run.begins.list
        ∙ ap (map page_of) (cut-first run.begins.left run.begins.entry run.begins.right (length run.ends.left) run.ascends) in
        let same : page_of run.begins.entry ∷ map page_of (drop (suc (length run.begins.left)) (take (suc (length run.ends.left)) (run.begins.left ++ run.begins.entry ∷ run.begins.right))) ≡ page ∷ rest =
        sym begins ∙ taken in cc

    pub pages-up-to : pages run.ends.left ++ page_of run.ends.entry ∷ [] ≡ pages run.begins.left ++ pages_between arena first last
    pages-up-to =
        sym (map-append page_of run.ends.left (run.ends.entry ∷ []))
        ∙ ap (map page_of) (up-to list run.begins.left run.begins.entry run.begins.right run.ends.left run.ends.entry run.ends.right run.begins.list run.ends.list run.ascends)
        ∙ map-append page_of run.begins.left (drop (length run.begins.left) (take (suc (length run.ends.left)) list))
        ∙ ap (λ l. pages run.begins.left ++ l) (sym (run-parts arena first last run))

    -- from the first page of a map to the last page of a run from the first leaf
    module _ (none : run.begins.left ≡ []) (middle : List (List ℕ × List (K × V))) (anchor : List ℕ) (entries : List (K × V))
        (taken : pages_between arena first last ≡ middle ++ (anchor, entries) ∷ []) where
      head-parts : (pages run.ends.left ≡ middle) × (page_of run.ends.entry ≡ (anchor, entries))
      head-parts =
          same_from_push (pages run.ends.left) middle (page_of run.ends.entry) (anchor, entries)
          (pages-up-to ∙ ap (λ l. pages l ++ pages_between arena first last) none ∙ taken)

      pub head-entries : run.ends.entry.1.entries ≡ entries
      head-entries = ap (λ page. page.1) head-parts.1

      pub from-head : (start end : ℕ) → start ≤ length head → end ≤ length run.ends.entry.1.entries
          → entries_left (drop start head) middle (take end entries) ≡ drop start (take (seat_place head arena (Some last) end) (map_entries head (pages_of arena)))
      from-head start end inside within =
          let rest = entries_in (pages run.ends.right) in
          let parts : whole ≡ head ++ (entries_in middle ++ (entries ++ rest)) =
          whole-at last run.ends
          ∙ (λ i. (head ++ entries_in (head-parts.0 i)) ++ (head-entries i ++ rest))
          ∙ append_assoc head (entries_in middle) (entries ++ rest) in
          let to = place-at last run.ends end ∙ ap (λ l. length (head ++ entries_in l) + end) head-parts.0 in
          let from : start ≡ 0 + start = omega arith in
          let long = ap length head-entries in
          sym ((λ i. drop (from i) (take (to i) (parts i)))
          ∙ between-across [] head (entries_in middle) entries rest start end inside (omega (arith, within, long)))

    -- within the only page of a run
    module _ (anchor : List ℕ) (entries : List (K × V)) (taken : pages_between arena first last ≡ (anchor, entries) ∷ []) where
      only-parts : (pages run.ends.left ≡ pages run.begins.left) × (page_of run.ends.entry ≡ (anchor, entries))
      only-parts =
          same_from_push (pages run.ends.left) (pages run.begins.left) (page_of run.ends.entry) (anchor, entries)
          (pages-up-to ∙ ap (λ l. pages run.begins.left ++ l) taken)

      pub only-begins : run.begins.entry.1.entries ≡ entries
      only-begins = ap (λ page. page.1) (run-first (anchor, entries) [] taken)

      pub only-ends : run.ends.entry.1.entries ≡ entries
      only-ends = ap (λ page. page.1) only-parts.1

      pub within-only : (start end : ℕ) → start ≤ length run.begins.entry.1.entries → end ≤ length run.ends.entry.1.entries
          → entries_left (drop start (take end entries)) [] [] ≡ drop (seat_place head arena (Some first) start) (take (seat_place head arena (Some last) end) (map_entries head (pages_of arena)))
      within-only start end inside within =
          let rest = entries_in (pages run.begins.right) in
          let parts : whole ≡ (head ++ entries_in (pages run.begins.left)) ++ (entries ++ rest) =
          whole-at first run.begins ∙ ap (λ l. (head ++ entries_in (pages run.begins.left)) ++ (l ++ rest)) only-begins in
          let from = place-at first run.begins start in
          let to = place-at last run.ends end ∙ ap (λ l. length (head ++ entries_in l) + end) only-parts.0 in
          let long = ap length only-begins in let also = ap length only-ends in
          append-nil (drop start (take end entries))
          ∙ sym ((λ i. drop (from i) (take (to i) (parts i)))
          ∙ between-inside (head ++ entries_in (pages run.begins.left)) entries rest start end (omega (arith, inside, long)) (omega (arith, within, also)))

    -- from the first page of a run to the last of them
    module _ (anchor : List ℕ) (entries : List (K × V)) (middle : List (List ℕ × List (K × V))) (last_anchor : List ℕ) (last_entries : List (K × V))
        (taken : pages_between arena first last ≡ (anchor, entries) ∷ (middle ++ (last_anchor, last_entries) ∷ [])) where
      more-parts : (pages run.ends.left ≡ pages run.begins.left ++ (anchor, entries) ∷ middle) × (page_of run.ends.entry ≡ (last_anchor, last_entries))
      more-parts =
          same_from_push (pages run.ends.left) (pages run.begins.left ++ (anchor, entries) ∷ middle) (page_of run.ends.entry) (last_anchor, last_entries)
          (pages-up-to ∙ ap (λ l. pages run.begins.left ++ l) taken
          ∙ sym (append_assoc (pages run.begins.left) ((anchor, entries) ∷ middle) ((last_anchor, last_entries) ∷ [])))

      pub more-begins : run.begins.entry.1.entries ≡ entries
      more-begins = ap (λ page. page.1) (run-first (anchor, entries) (middle ++ (last_anchor, last_entries) ∷ []) taken)

      pub more-ends : run.ends.entry.1.entries ≡ last_entries
      more-ends = ap (λ page. page.1) more-parts.1

      around : (l e m r : List (K × V)) → (head ++ (l ++ (e ++ m))) ++ r ≡ (head ++ l) ++ (e ++ (m ++ r))
      around l e m r =
          append_assoc head (l ++ (e ++ m)) r ∙ ap (λ k. head ++ k) (append_assoc l (e ++ m) r ∙ ap (λ k. l ++ k) (append_assoc e m r))
          ∙ sym (append_assoc head l (e ++ (m ++ r)))

      pub across-pages : (start end : ℕ) → start ≤ length run.begins.entry.1.entries → end ≤ length run.ends.entry.1.entries
          → entries_left (drop start entries) middle (take end last_entries) ≡ drop (seat_place head arena (Some first) start) (take (seat_place head arena (Some last) end) (map_entries head (pages_of arena)))
      across-pages start end inside within =
          let left = entries_in (pages run.begins.left) in
          let rest = entries_in (pages run.ends.right) in
          let up : entries_in (pages run.ends.left) ≡ left ++ (entries ++ entries_in middle) =
          ap entries_in more-parts.0 ∙ entries-around (pages run.begins.left) (anchor, entries) middle in
          let parts : whole ≡ (head ++ left) ++ (entries ++ (entries_in middle ++ (last_entries ++ rest))) =
          whole-at last run.ends ∙ (λ i. (head ++ up i) ++ (more-ends i ++ rest)) ∙ around left entries (entries_in middle) (last_entries ++ rest) in
          let from = place-at first run.begins start in
          let to = place-at last run.ends end ∙ ap (λ l. length (head ++ l) + end) up
          ∙ ap (λ l. length l + end) (sym (append_assoc head left (entries ++ entries_in middle))) in
          let long = ap length more-begins in let also = ap length more-ends in
          sym ((λ i. drop (from i) (take (to i) (parts i)))
          ∙ between-across (head ++ left) entries (entries_in middle) last_entries rest start end (omega (arith, inside, long)) (omega (arith, within, also)))
