-- The entries before and behind a leaf of a tree: where the list is split, and the leaf behind.
use Rattle.art_routes.proofs.LeafNames.{All, All-head, All-tail, AllHold, AreOn, Ascend, Before, Changes, Contains, Contains-append_right, Contains-get_or, HeldLeaf, HoldsFirst, IsAlone, IsArt, IsFirstAfter, IsLinkedList, IsSplit, LeafNode, LeafPtr, Less, List, NodeArena, None, OpaqueNodePtr, Option, Some, Tree, [], ap, append_assoc, are-entries, arith, ascend_rest, entries_of, entries_under, false, filter_map-append, first_or_later, first_there, get_or, held, held_leaf, image_inside, inl, inr, is_before, key_and_value, knit-member, leaf-in, leaf_at, leaf_key, leaf_pointer, leaves, less_differs, map, next-member, next_at, none_below, none_inside, opaque_key, opaque_pointer, option_map, other_text, refl, slab_key, slab_keys_of, slice_get, subst, sym, text_itself, text_order, texts_of, true, without_text, ℕ, ◌++◌, ◌∙◌, ◌∷◌, ◌≡◌, ◌≢◌}
use Rattle.art_header.specs.declared.node_type.NodeType.TheVariants as kinds
use Rattle.art_nodes.specs.Leaf.{with_value}
use Rattle.art_steps.specs.Leaves.{KeepsOtherLeaves}
use Rattle.art_routes.proofs.CalledLemmas.{alone-kept, held-slot}
use Rattle.art_routes.proofs.EntryLemmas.{entries-of-leaves, leaves-hold}
use Rattle.art_routes.proofs.ListLemmas.{slot-of}
use Rattle.art_routes.proofs.RangeLemmas.{held_by, something-held}
use Rattle.art_routes.proofs.SideLemmas.{none-before}
use Rattle.art_routes.proofs.RunLemmas.{apart-at, entries-cons, entries-kept, others-stay}

-- a list around a member
pub around : {X : Type 0} (xs : List X) (x : X) → Contains xs x → (before : List X) × (after : List X) × (xs ≡ before ++ x ∷ after)
around [] x inside = absurd (none_inside x inside)
around (y ∷ ys) x inside = elim (first_or_later y x ys inside) [
  | inl same ↦ ([], ys, ap (λ z. z ∷ ys) same)
  | inr later ↦ let (before, after, is) = around ys x later in (y ∷ before, after, ap (λ zs. y ∷ zs) is)
]

-- texts that ascend are different, so an entry is at one place among them
module _ {K V : Type 0} (text : K → List ℕ) where
  not-below-itself : (e : K × V) (entries : List (K × V)) → Ascend (text e.0 ∷ texts_of text entries) → Contains entries e → ⊥
  not-below-itself e entries ascend inside =
      less_differs (text e.0) (text e.0) (none_below (text e.0) (text e.0) (texts_of text entries) ascend (image_inside (λ x. text x.0) entries e (text e.0) refl inside)) refl

  pub one-cut : (before others : List (K × V)) (e : K × V) (after rest : List (K × V)) → Ascend (texts_of text (before ++ e ∷ after)) → before ++ e ∷ after ≡ others ++ e ∷ rest → (before ≡ others) × (after ≡ rest)
  one-cut [] [] e after rest ascend is = (refl, cc)
  one-cut [] (x ∷ others) e after rest ascend is =
      let tails : after ≡ others ++ e ∷ rest = cc in
      absurd (not-below-itself e after ascend (subst (λ all. Contains all e) (sym tails) (Contains-append_right others (e ∷ rest) e (0, omega arith, refl))))
  one-cut (x ∷ before) [] e after rest ascend is =
      let same : x ≡ e = cc in
      absurd (not-below-itself e (before ++ e ∷ after) (subst (λ y. Ascend (text y.0 ∷ texts_of text (before ++ e ∷ after))) same ascend) (Contains-append_right before (e ∷ after) e (0, omega arith, refl)))
  one-cut (x ∷ before) (y ∷ others) e after rest ascend is =
      let same : x ≡ y = cc in
      let tails : before ++ e ∷ after ≡ others ++ e ∷ rest = cc in
      let (left, right) = one-cut before others e after rest (ascend_rest (text x.0) (texts_of text (before ++ e ∷ after)) ascend) tails in
      ((λ i. same i ∷ left i), right)

  -- those before an entry are below it, and those behind it above
  pub behind-ascend : (before : List (K × V)) (after : List (K × V)) → Ascend (texts_of text (before ++ after)) → Ascend (texts_of text after)
  behind-ascend [] after ascend = ascend
  behind-ascend (x ∷ before) after ascend = behind-ascend before after (ascend_rest (text x.0) (texts_of text (before ++ after)) ascend)

  pub all-above : (e : K × V) (after : List (K × V)) → Ascend (texts_of text (e ∷ after)) → All (λ other. text_order (text e.0) (text other.0) ≡ Less) after
  all-above e after ascend = λ k d inside.
      let other = get_or after k d in
      none_below (text e.0) (text other.0) (texts_of text after) ascend (image_inside (λ x. text x.0) after other (text other.0) refl (Contains-get_or after k d inside))

  -- without the text of an entry, the list is what is before and behind it
  pub without-here : (before : List (K × V)) (e : K × V) (after : List (K × V)) → Ascend (texts_of text (before ++ e ∷ after)) → without_text text (before ++ e ∷ after) (text e.0) ≡ before ++ after
  without-here [] e after ascend = rw (text_itself (text e.0)) (none-gone after (all-above e after ascend))
    where
      none-gone : (after : List (K × V)) → All (λ other. text_order (text e.0) (text other.0) ≡ Less) after → without_text text after (text e.0) ≡ after
      none-gone [] above = refl
      none-gone (x ∷ after) above =
          let differ = other_text (text x.0) (text e.0) (λ same. less_differs (text e.0) (text x.0) (All-head (λ other. text_order (text e.0) (text other.0) ≡ Less) x after above) (sym same)) in
          rw differ (ap (λ all. x ∷ all) (none-gone after (All-tail (λ other. text_order (text e.0) (text other.0) ≡ Less) x after above)))
  without-here (x ∷ before) e after ascend =
      let below = none_below (text x.0) (text e.0) (texts_of text (before ++ e ∷ after)) ascend (image_inside (λ y. text y.0) (before ++ e ∷ after) e (text e.0) refl (Contains-append_right before (e ∷ after) e (0, omega arith, refl))) in
      let differ = other_text (text x.0) (text e.0) (less_differs (text x.0) (text e.0) below) in
      rw differ (ap (λ all. x ∷ all) (without-here before e after (ascend_rest (text x.0) (texts_of text (before ++ e ∷ after)) ascend)))

-- a leaf that is held is one of the tree's
module _ {K V : Type 0} {P : ℕ} (text : K → List ℕ) (arena : NodeArena K V P) (key : ℕ) (leaf : LeafNode K V P) (there : leaf_at arena key ≡ Some leaf) where
  abbrev this : OpaqueNodePtr K V P
  this = opaque_pointer kinds.Leaf key

  pub is-held : held arena this ≡ HeldLeaf leaf
  is-held = ap (held_leaf {H = OpaqueNodePtr K V P}) there

  pub key-inside : (root : OpaqueNodePtr K V P) (tree : Tree (OpaqueNodePtr K V P)) → IsAlone text arena root tree → Contains (slab_keys_of (leaves tree)) key
  key-inside root tree alone =
      let inside = leaf-in text arena tree alone.is_tree.stands this leaf (alone.no_others this (something-held (held arena this) leaf is-held)) is-held in
      image_inside opaque_key (map (λ pair. pair.0) (leaves tree)) this key refl (image_inside (λ pair. pair.0) (leaves tree) (this, text (leaf_key leaf)) this refl inside)

-- the entry at a cut is that of the leaf
pub entry-at : {K V : Type 0} {P : ℕ} (arena : NodeArena K V P) (key : ℕ) (entry : K × V) (after : List (K × V)) (holds : HoldsFirst arena (Some key) (entry ∷ after)) → entry ≡ key_and_value holds.0
entry-at arena key entry after holds = let both : entry ∷ after ≡ key_and_value holds.0 ∷ holds.1 = holds.3 in cc

-- the leaves before and behind the leaf at a cut hold the entries before and behind it
module _ {K V : Type 0} {P : ℕ} (text : K → List ℕ) (arena : NodeArena K V P) (root : OpaqueNodePtr K V P) (tree : Tree (OpaqueNodePtr K V P)) (alone : IsAlone text arena root tree)
    (before : List (K × V)) (key : ℕ) (entry : K × V) (after : List (K × V)) (cut : IsSplit text arena before (Some key) (entry ∷ after)) where
  abbrev pub leaf-here : LeafNode K V P
  leaf-here = cut.1.0

  pub is-there : leaf_at arena key ≡ Some leaf-here
  is-there = cut.1.2

  pub entry-is : entry ≡ key_and_value leaf-here
  entry-is = entry-at arena key entry after cut.1

  abbrev parted : (done : List ℕ) × (todo : List ℕ) × (slab_keys_of (leaves tree) ≡ done ++ key ∷ todo)
  parted = around (slab_keys_of (leaves tree)) key (key-inside text arena key leaf-here is-there root tree alone)

  abbrev pub done : List ℕ
  done = parted.0

  abbrev pub todo : List ℕ
  todo = parted.1

  pub keys-are : slab_keys_of (leaves tree) ≡ done ++ key ∷ todo
  keys-are = parted.2

  pub list-here : IsLinkedList arena (done ++ key ∷ todo)
  list-here = subst (IsLinkedList arena) keys-are alone.is_linked

  under-parts : entries_under arena done ++ entry ∷ entries_under arena todo ≡ before ++ entry ∷ after
  under-parts =
      ap (λ e. entries_under arena done ++ e ∷ entries_under arena todo) entry-is
      ∙ sym (filter_map-append (λ k. option_map key_and_value (leaf_at arena k)) done (key ∷ todo) ∙ ap (λ es. entries_under arena done ++ es) (entries-cons arena key todo leaf-here is-there))
      ∙ sym (ap (entries_under arena) keys-are) ∙ entries-of-leaves alone ∙ cut.0

  same-parts : (before ≡ entries_under arena done) × (after ≡ entries_under arena todo)
  same-parts = one-cut text before (entries_under arena done) entry after (entries_under arena todo) (subst (λ es. Ascend (texts_of text es)) cut.0 (are-entries text arena).ascending) (sym under-parts)

  pub behind-is : after ≡ entries_under arena todo
  behind-is = same-parts.1

  pub before-is : before ≡ entries_under arena done
  before-is = same-parts.0

  -- the leaf behind holds the first of the entries behind
  pub cut-behind : (next : Option ℕ) → next ≡ next_at arena key → IsSplit text arena (before ++ entry ∷ []) next after
  cut-behind next is = (cut.0 ∙ sym (append_assoc before (entry ∷ []) after), subst (λ o. HoldsFirst arena o after) (sym (is ∙ next-member arena done todo key list-here)) (by_todo todo refl behind-is))
    where
      by_todo : (keys : List ℕ) → todo ≡ keys → after ≡ entries_under arena keys → HoldsFirst arena (slice_get keys 0) after
      by_todo [] is none = none
      by_todo (k ∷ keys) is some =
          let is_list = subst (IsLinkedList arena) (ap (λ ks. done ++ key ∷ ks) is ∙ sym (append_assoc done (key ∷ []) (k ∷ keys))) list-here in
          let (other, found) = held-slot (leaf_at arena k) (knit-member arena (done ++ key ∷ []) keys k is_list).held in
          (other, entries_under arena keys, found, some ∙ entries-cons arena k keys other found)

  -- another value in the leaf is another value in the list
  module _ (new : NodeArena K V P) (value : V) (changes : Changes arena new (opaque_pointer kinds.Leaf key) (HeldLeaf (with_value leaf-here value))) where
    pub cut-changed : IsSplit text new before (Some key) ((entry.0, value) ∷ after)
    cut-changed =
        let others = others-stay arena new key changes in
        let apart = apart-at done key todo list-here.distinct in
        let here : leaf_at new key ≡ Some (with_value leaf-here value) = slot-of (leaf_at new key) (with_value leaf-here value) changes.changed in
        let now : key_and_value (with_value leaf-here value) ≡ (entry.0, value) = sym (ap (λ e. (e.0, value)) entry-is) in (
          sym (entries-of-leaves (alone-kept text arena new key leaf-here is-there value changes root tree alone)) ∙ ap (entries_under new) keys-are
              ∙ filter_map-append (λ k. option_map key_and_value (leaf_at new k)) done (key ∷ todo)
              ∙ ap (λ es. es ++ entries_under new (key ∷ todo)) (entries-kept arena new key others done apart.0 ∙ sym before-is)
              ∙ ap (λ es. before ++ es) (entries-cons new key todo (with_value leaf-here value) here)
              ∙ ap (λ es. before ++ key_and_value (with_value leaf-here value) ∷ es) (entries-kept arena new key others todo apart.1 ∙ sym behind-is)
              ∙ ap (λ e. before ++ e ∷ after) now,
          (with_value leaf-here value, after, here, ap (λ e. e ∷ after) (sym now)),
        )

-- the leaf behind one that is removed holds the same entry
module _ {K V : Type 0} {P : ℕ} (text : K → List ℕ) (old new : NodeArena K V P) (e : K × V) (keeps : KeepsOtherLeaves text old new (text e.0)) where
  pub holds-on : (next : Option ℕ) (after : List (K × V)) → Ascend (texts_of text (e ∷ after)) → HoldsFirst old next after → HoldsFirst new next after
  holds-on None after ascend holds = holds
  holds-on (Some key) after ascend (leaf, rest, there, is) =
      let above = none_below (text e.0) (text (leaf_key leaf)) (texts_of text after) ascend (subst (λ es. Contains (texts_of text es) (text (leaf_key leaf))) (sym is) (first_there (text (leaf_key leaf)) (text (leaf_key leaf)) (texts_of text rest) refl)) in
      let differ : text (leaf_key leaf) ≢ text e.0 = λ same. less_differs (text e.0) (text (leaf_key leaf)) above (sym same) in
      let (now, found, same_key, same_value) = keeps (opaque_pointer kinds.Leaf key) leaf (ap (held_leaf {H = OpaqueNodePtr K V P}) there) differ in
      (now, rest, slot-of (leaf_at new key) now found, is ∙ ap (λ entry. entry ∷ rest) (λ i. (sym same_key i, sym same_value i)))

-- an arena that holds a leaf has a tree
pub alone-there : {K V : Type 0} {P : ℕ} (text : K → List ℕ) (arena : NodeArena K V P) (key : ℕ) (leaf : LeafNode K V P) → leaf_at arena key ≡ Some leaf → (root : Option (OpaqueNodePtr K V P)) → IsArt text arena root → (top : OpaqueNodePtr K V P) × (tree : Tree (OpaqueNodePtr K V P)) × IsAlone text arena top tree
alone-there text arena key leaf there None nothing = absurd (something-held (held arena (opaque_pointer kinds.Leaf key)) leaf (is-held text arena key leaf there) (nothing (opaque_pointer kinds.Leaf key)))
alone-there text arena key leaf there (Some root) (tree, alone) = (root, tree, alone)

-- nothing comes before the empty key
none-early : {H : Type 0} (pairs : List (H × List ℕ)) → AreOn Before [] true pairs → pairs ≡ []
none-early [] on = refl
none-early (pair ∷ pairs) on = let wrong : false ≡ true = sym (none-before pair.1) ∙ All-head (λ leaf. is_before Before [] leaf.1 ≡ true) pair pairs on in absurd (cc)

-- so the first leaf behind it holds the first of all entries
module _ {K V : Type 0} {P : ℕ} {text : K → List ℕ} {arena : NodeArena K V P} {root : OpaqueNodePtr K V P} {tree : Tree (OpaqueNodePtr K V P)} (alone : IsAlone text arena root tree) where
  pub first-held : (o : Option (LeafPtr K V P)) → IsFirstAfter Before [] (leaves tree) (option_map leaf_pointer o) → HoldsFirst arena (option_map slab_key o) (entries_of text arena)
  first-held None on = sym (entries-of-leaves alone) ∙ ap (held_by text arena) (none-early (leaves tree) on)
  first-held (Some leaf) (x, left, right, is, before, after) =
      let here : OpaqueNodePtr K V P × List ℕ = (leaf_pointer leaf, x) in
      let whole : leaves tree ≡ here ∷ right = is ∙ ap (λ pairs. pairs ++ here ∷ right) (none-early left before) in
      let hold = subst (AllHold text arena) whole (leaves-hold alone) in
      (hold.0.leaf, held_by text arena right, hold.0.at, sym (entries-of-leaves alone) ∙ ap (held_by text arena) whole ∙ entries-cons arena (slab_key leaf) (slab_keys_of right) hold.0.leaf hold.0.at)
