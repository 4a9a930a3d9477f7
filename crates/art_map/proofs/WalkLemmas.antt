-- A walk along the pages of a tree, in which entries are tested.
use Rattle.std.proofs.Common.{◌≡◌, ◌∙◌, ℕ, ◌+◌, ◌<◌, ◌≤◌, Bool, List, [], ◌∷◌, ◌++◌, length, length-append, append_assoc, append-nil, Option, Some, None, refl, sym, ap, subst, arith}
use Rattle.std.specs.Map.Calls.{CallableOnEachPair}
use Rattle.std.specs.Option.{option_map}
use Rattle.std.specs.Prelude.{IfSome}
use Rattle.std.proofs.lemmas.List.{map-append}
use Rattle.art_nodes.specs.Pointers.{slab_key}
use Rattle.art_nodes.specs.declared.pointers.OpaqueNodePtr.{OpaqueNodePtr}
use Rattle.art_arena.specs.Arena.{Held, HeldInner, HeldLeaf, LeafPtr, NodeArena, Nothing, SameNodes, held_leaf}
use Rattle.art_arena.specs.Links.{leaf_at}
use Rattle.art_tree.specs.Entries.{entries_of}
use Rattle.art_search.specs.Search.{leaf_pointer}
use Rattle.art_index.specs.Places.{IsFirst, IsNext, IsPlaced, IsPrevious, leaf_entry}
use Rattle.art_pages.proofs.RetainLemmas.{callable-back, callable-front, retains-append}
use Rattle.art_pages.specs.Contents.{PageContents}
use Rattle.art_pages.specs.Retaining.{RetainsTo}
use Rattle.art_map.proofs.ChangeLemmas.{entries-around}
use Rattle.art_map.proofs.EndLemmas.{leaves-left}
use Rattle.art_map.proofs.FewerLemmas.{IsFewer}
use Rattle.art_map.proofs.PartLemmas.{entries_in-append}
use Rattle.art_map.proofs.RunLemmas.{entries_last, rank-placed}
use Rattle.art_map.proofs.TreeLemmas.{pages, pages-around}
use Rattle.art_map.specs.Pages.{entries_in}
use Rattle.art_map.specs.Trees.{page_of, pages_of}
use Rattle.art_map.specs.Walk.{ArePagesUpTo, IsAt}

-- the entries that stay are fewer
pub fewer-retained : {F K V : Type 0} (T : F → K → V → Bool → V → F → Type 0) (entries kept : List (K × V)) (f last : F) → RetainsTo T f entries kept last → IsFewer entries kept
fewer-retained T [] kept f last (same, none) = none
fewer-retained T (entry ∷ entries) kept f last (keeps, value, next, left, step, on, is) = (keeps, value, left, fewer-retained T entries left next last on, is)

module _ {H L : Type 0} where
  -- a leaf that is held
  abbrev as_leaf : Held H L → Option L
  as_leaf Nothing = None
  as_leaf (HeldInner node) = None
  as_leaf (HeldLeaf leaf) = Some leaf

as_leaf-held : (H : Type 0) {L : Type 0} (o : Option L) → as_leaf (held_leaf {H = H} o) ≡ o
as_leaf-held H None = refl
as_leaf-held H (Some leaf) = refl

abbrev Leaf : Type 0 → Type 0 → ℕ → Type 0
Leaf K V P = LeafPtr (List ℕ) (PageContents K V) P

abbrev Arena : Type 0 → Type 0 → ℕ → Type 0
Arena K V P = NodeArena (List ℕ) (PageContents K V) P

abbrev Leaves : Type 0 → Type 0 → Type 0
Leaves K V = List (List ℕ × PageContents K V)

-- the entries of pages, and of one more behind them
entries-more : {K V : Type 0} (left : Leaves K V) (leaf : List ℕ × PageContents K V) → entries_in (pages (left ++ leaf ∷ [])) ≡ entries_in (pages left) ++ leaf.1.entries
entries-more left leaf = ap entries_in (map-append page_of left (leaf ∷ [])) ∙ entries_last (pages left) (page_of leaf)

-- a test f was made of the entries of the pages before a leaf, and is to be made of the others; at first it was `first`, and these
-- were the entries
pub record IsWalk {F K V : Type 0} {P : ℕ} (T : F → K → V → Bool → V → F → Type 0) (Q : F → K → V → Type 0) (first : F) (entries : List (K × V))
    (arena : Arena K V P) (at : Option (Leaf K V P)) (f : F) : Type 0 where
  pub seen : Leaves K V
  pub rest : Leaves K V
  pub there : IsAt arena at seen rest
  pub callable : CallableOnEachPair T Q f (entries_in (pages rest))
  pub tested : (kept : List (K × V)) (last : F) → RetainsTo T f (entries_in (pages rest)) kept last → RetainsTo T first entries (entries_in (pages seen) ++ kept) last

module _ {K V : Type 0} {P : ℕ} where
  abbrev Placed : Arena K V P → Leaf K V P → Type 0
  Placed arena leaf = IsPlaced (λ anchor. anchor) arena leaf

  -- a leaf stays where no node has changed
  pub placed-still : (old new : Arena K V P) (leaf : Leaf K V P) (here : Placed old leaf) → SameNodes old new → entries_of (λ anchor. anchor) new ≡ entries_of (λ anchor. anchor) old
      → (now : Placed new leaf) × (now.left ≡ here.left) × (now.entry ≡ here.entry) × (now.right ≡ here.right)
  placed-still old new leaf here nodes same =
      let leaf_same = sym (as_leaf-held (OpaqueNodePtr (List ℕ) (PageContents K V) P) (leaf_at new (slab_key leaf))) ∙ ap as_leaf (nodes (leaf_pointer leaf)) ∙ as_leaf-held (OpaqueNodePtr (List ℕ) (PageContents K V) P) (leaf_at old (slab_key leaf)) in
      (record { left = here.left; entry = here.entry; right = here.right; holds = ap (option_map leaf_entry) leaf_same ∙ here.holds; list = same ∙ here.list }, refl, refl, refl)

  -- a page up to which a walk came: these are before the rest
  abbrev pub Passed : (old new : Arena K V P) (leaf : Leaf K V P) → Placed old leaf → Option (Leaf K V P) → Type 0
  Passed old new leaf here last = (seen : Leaves K V) × ArePagesUpTo new last seen here.right × (entries_in (pages seen) ≡ entries_in (pages here.left) ++ here.entry.1.entries)

  up-to-list : (arena : Arena K V P) (last : Option (Leaf K V P)) (seen rest : Leaves K V) → ArePagesUpTo arena last seen rest → entries_of (λ anchor. anchor) arena ≡ seen ++ rest
  up-to-list arena None seen rest (start, all) = all ∙ ap (λ l. l ++ rest) (sym start)
  up-to-list arena (Some leaf) seen rest (here, up_to, right) = here.list ∙ sym (append_assoc here.left (here.entry ∷ []) here.right) ∙ (λ j. up_to j ++ right j)

  -- all entries are as before
  pub passed-same : (old new : Arena K V P) (leaf : Leaf K V P) (here : Placed old leaf) (last : Option (Leaf K V P)) → Passed old new leaf here last → entries_in (pages_of new) ≡ entries_in (pages_of old)
  passed-same old new leaf here last (seen, up_to, are) =
      ap (λ l. entries_in (pages l)) (up-to-list new last seen here.right up_to) ∙ ap entries_in (map-append page_of seen here.right) ∙ entries_in-append (pages seen) (pages here.right)
      ∙ ap (λ l. l ++ entries_in (pages here.right)) are ∙ append_assoc (entries_in (pages here.left)) here.entry.1.entries (entries_in (pages here.right))
      ∙ sym (entries-around (pages here.left) (page_of here.entry) (pages here.right)) ∙ ap entries_in (sym (pages-around old leaf here))

  -- up to a leaf that stays
  pub passed-still : (old new : Arena K V P) (leaf : Leaf K V P) (here : Placed old leaf) → (now : Placed new leaf) × (now.left ≡ here.left) × (now.entry ≡ here.entry) × (now.right ≡ here.right)
      → Passed old new leaf here (Some leaf)
  passed-still old new leaf here (now, left, entry, right) =
      (here.left ++ here.entry ∷ [], (now, (λ j. left j ++ entry j ∷ []), right), entries-more here.left here.entry)

  -- up to the leaf before one that was taken out, which had no entries
  pub passed-taken : (old new : Arena K V P) (leaf : Leaf K V P) (here : Placed old leaf) (previous : Option (Leaf K V P)) → IsPrevious (λ anchor. anchor) old here previous
      → here.entry.1.entries ≡ [] → entries_of (λ anchor. anchor) new ≡ here.left ++ here.right
      → ((leaf : Leaf K V P) (before : Placed old leaf) → before.right ≡ here.entry ∷ here.right → (now : Placed new leaf) × (now.left ≡ before.left) × (now.entry ≡ before.entry) × (now.right ≡ here.right))
      → Passed old new leaf here previous
  passed-taken old new leaf here None first empty taken stays =
      (here.left, (first, taken ∙ ap (λ l. l ++ here.right) first), sym (append-nil (entries_in (pages here.left))) ∙ ap (λ l. entries_in (pages here.left) ++ l) (sym empty))
  passed-taken old new leaf here (Some previous) (before, left, right) empty taken stays =
      let (now, now_left, now_entry, now_right) = stays previous before right in
      (here.left, (now, (λ j. now_left j ++ now_entry j ∷ []) ∙ sym left, now_right), sym (append-nil (entries_in (pages here.left))) ∙ ap (λ l. entries_in (pages here.left) ++ l) (sym empty))

  -- the last leaf is in the tree
  pub up-to-placed : (arena : Arena K V P) (last : Option (Leaf K V P)) (seen rest : Leaves K V) → ArePagesUpTo arena last seen rest → IfSome last (λ leaf. Placed arena leaf)
  up-to-placed arena None seen rest at = tt
  up-to-placed arena (Some leaf) seen rest at = at.0

  -- the leaf behind that of the last page, or the first leaf
  pub first-at : (arena : Arena K V P) (first : Option (Leaf K V P)) → IsFirst (λ anchor. anchor) arena first → (seen rest : Leaves K V) → ArePagesUpTo arena None seen rest → IsAt arena first seen rest
  first-at arena None none seen rest (start, all) = (none ∙ sym start, sym all ∙ none)
  first-at arena (Some leaf) (here, none) seen rest (start, all) = (here, none ∙ sym start, ap (λ l. l ++ here.entry ∷ here.right) (sym none) ∙ sym here.list ∙ all)

  pub next-at : (arena : Arena K V P) (leaf : Leaf K V P) (next : Option (Leaf K V P)) → ((here : Placed arena leaf) → IsNext (λ anchor. anchor) arena here next) → (seen rest : Leaves K V) → ArePagesUpTo arena (Some leaf) seen rest → IsAt arena next seen rest
  next-at arena leaf next behind seen rest (here, up_to, right) = by next (behind here)
    where
      by : (next : Option (Leaf K V P)) → IsNext (λ anchor. anchor) arena here next → IsAt arena next seen rest
      by None last = (here.list ∙ ap (λ l. here.left ++ here.entry ∷ l) last ∙ up_to, sym right ∙ last)
      by (Some next) (there, left, is) = (there, left ∙ up_to, sym is ∙ right)

  -- how many pages are left
  left-at : (arena : Arena K V P) (at : Option (Leaf K V P)) (seen rest : Leaves K V) → IsAt arena at seen rest → leaves-left arena at ≡ length rest
  left-at arena None seen rest (all, none) = sym (ap length none)
  left-at arena (Some leaf) seen rest (here, left, is) =
      let before = rank-placed arena leaf here in let long = ap length here.list ∙ length-append here.left (here.entry ∷ here.right) in
      let count = ap length (sym is) in omega (arith, before, long, count)

  -- a walk at the first leaf
  pub walk-start : {F : Type 0} (T : F → K → V → Bool → V → F → Type 0) (Q : F → K → V → Type 0) (first : F) (arena : Arena K V P) (at : Option (Leaf K V P))
      → CallableOnEachPair T Q first (entries_in (pages_of arena)) → ((seen rest : Leaves K V) → ArePagesUpTo arena None seen rest → IsAt arena at seen rest) → IsWalk T Q first (entries_in (pages_of arena)) arena at first
  walk-start T Q first arena at callable there =
      let all = entries_of (λ anchor. anchor) arena in record { seen = []; rest = all; there = there [] all (refl, refl); callable = callable; tested = λ kept last on. on }

  module _ {F : Type 0} (T : F → K → V → Bool → V → F → Type 0) (Q : F → K → V → Type 0) (first : F) (entries : List (K × V)) where
    -- at the end
    pub walk-end : (arena : Arena K V P) (at : Option (Leaf K V P)) (f : F) → IsWalk T Q first entries arena at f → at ≡ None → RetainsTo T first entries (entries_in (pages_of arena)) f
    walk-end arena at f walk none =
        let (all, nothing) = subst (λ at. IsAt arena at walk.seen walk.rest) none walk.there in
        subst (λ l. RetainsTo T first entries l f) (append-nil (entries_in (pages walk.seen)) ∙ ap (λ l. entries_in (pages l)) (sym all))
        (walk.tested [] f (subst (λ l. RetainsTo T f (entries_in (pages l)) [] f) (sym nothing) (refl, refl)))

    module _ (old : Arena K V P) (at : Option (Leaf K V P)) (leaf : Leaf K V P) (f : F) (walk : IsWalk T Q first entries old at f) (at_is : at ≡ Some leaf) where
      abbrev at-leaf : IsAt old (Some leaf) walk.seen walk.rest
      at-leaf = subst (λ at. IsAt old at walk.seen walk.rest) at_is walk.there

      -- the leaf is in the tree
      abbrev pub placed-leaf : Placed old leaf
      placed-leaf = at-leaf.0

      callable-leaf : CallableOnEachPair T Q f (placed-leaf.entry.1.entries ++ entries_in (pages placed-leaf.right))
      callable-leaf = subst (λ l. CallableOnEachPair T Q f (entries_in (pages l))) (sym at-leaf.2) walk.callable

      -- its entries may be tested
      pub placed-callable : (here : Placed old leaf) × CallableOnEachPair T Q f here.entry.1.entries
      placed-callable = (placed-leaf, callable-front T Q placed-leaf.entry.1.entries (entries_in (pages placed-leaf.right)) f callable-leaf)

      -- and are no more than all
      pub within-all : length placed-leaf.entry.1.entries ≤ length (entries_in (pages_of old))
      within-all =
          let here = placed-leaf in
          let parts = ap (λ l. length (entries_in l)) (pages-around old leaf here) ∙ ap length (entries-around (pages here.left) (page_of here.entry) (pages here.right)) in
          let one = length-append (entries_in (pages here.left)) (here.entry.1.entries ++ entries_in (pages here.right)) in
          let other = length-append here.entry.1.entries (entries_in (pages here.right)) in omega (arith, parts, one, other)

      -- they were
      module _ (mid : Arena K V P) (f' : F) (now : Placed mid leaf) (left : now.left ≡ placed-leaf.left) (right : now.right ≡ placed-leaf.right) (on : RetainsTo T f placed-leaf.entry.1.entries now.entry.1.entries f') where
        -- how many entries are left
        pub length-left : (gone : ℕ) → length now.entry.1.entries + gone ≡ length placed-leaf.entry.1.entries → length (entries_in (pages_of mid)) + gone ≡ length (entries_in (pages_of old))
        length-left gone count =
            let here = placed-leaf in
            let parts = ap (λ l. length (entries_in l)) (pages-around old leaf here) ∙ ap length (entries-around (pages here.left) (page_of here.entry) (pages here.right)) in
            let one = length-append (entries_in (pages here.left)) (here.entry.1.entries ++ entries_in (pages here.right)) in
            let other = length-append here.entry.1.entries (entries_in (pages here.right)) in
            let parts_now = ap (λ l. length (entries_in l)) (pages-around mid leaf now) ∙ ap length (entries-around (pages now.left) (page_of now.entry) (pages now.right)) in
            let one_now = length-append (entries_in (pages now.left)) (now.entry.1.entries ++ entries_in (pages now.right)) in
            let other_now = length-append now.entry.1.entries (entries_in (pages now.right)) in
            let same_left = ap (λ l. length (entries_in (pages l))) left in let same_right = ap (λ l. length (entries_in (pages l))) right in
            omega (arith, parts, one, other, parts_now, one_now, other_now, same_left, same_right, count)

        module _ (new : Arena K V P) (last next : Option (Leaf K V P)) (passed : Passed mid new leaf now last) (there : (seen rest : Leaves K V) → ArePagesUpTo new last seen rest → IsAt new next seen rest) where
          -- the walk goes on
          pub walk-next : IsWalk T Q first entries new next f'
          walk-next =
              let here = placed-leaf in let (seen, up_to, seen_are) = passed in
              let others : entries_in (pages now.right) ≡ entries_in (pages here.right) = ap (λ l. entries_in (pages l)) right in record {
                seen = seen;
                rest = now.right;
                there = there seen now.right up_to;
                callable = subst (CallableOnEachPair T Q f') (sym others) (callable-back T Q here.entry.1.entries (entries_in (pages here.right)) f callable-leaf now.entry.1.entries f' on);
                tested = λ kept final later.
                    let both = retains-append T here.entry.1.entries now.entry.1.entries f f' on (entries_in (pages here.right)) kept final (subst (λ l. RetainsTo T f' l kept final) others later) in
                    let all = walk.tested (now.entry.1.entries ++ kept) final (subst (λ l. RetainsTo T f (entries_in (pages l)) (now.entry.1.entries ++ kept) final) at-leaf.2 both) in
                    let before : entries_in (pages walk.seen) ++ (now.entry.1.entries ++ kept) ≡ entries_in (pages seen) ++ kept =
                    sym (append_assoc (entries_in (pages walk.seen)) now.entry.1.entries kept)
                    ∙ ap (λ l. (entries_in (pages l) ++ now.entry.1.entries) ++ kept) (sym at-leaf.1 ∙ sym left) ∙ ap (λ l. l ++ kept) (sym seen_are) in
                    subst (λ l. RetainsTo T first entries l final) before all;
              }

          -- fewer pages are left
          pub walk-fewer : leaves-left new next < leaves-left old at
          walk-fewer =
              let (seen, up_to, seen_are) = passed in
              let then = left-at new next seen now.right (there seen now.right up_to) in
              let was = ap (leaves-left old) at_is ∙ left-at old (Some leaf) walk.seen walk.rest at-leaf in
              let rest = ap length (sym at-leaf.2) in let same = ap length right in omega (arith, then, was, rest, same)
