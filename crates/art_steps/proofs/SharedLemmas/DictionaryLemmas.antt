-- The dictionary of an arena that holds one tree.
use Rattle.art_steps.proofs.Names.{LeafPtr, filter, ◌<◌, ◌^◌, length, ◌≢◌, ◌≡◌, ◌∙◌, ℕ, zero, suc, Bool, true, false, not, IsTrue, List, [], ◌∷◌, map, get_or, All, AllPairs, Contains, Option, Some, None, slice_index_or, nat_eq, refl, sym, ap, subst, inl, inr, arith, append-nil, ◌++◌, pointwise, nat_list_cmp_total, ordering_reverse, is_some, option_map, Less, Greater, same_Some, All-contains, All-map, Contains-get_or, Contains-append_left, Contains-append_right, Contains-append_cases, IsPrefixOf, text_order, leaf_key, leaf_value, node_kind, opaque_key, slab_key, opaque_pointer, OpaqueNodePtr, LeafNode, NodeArena, Nothing, HeldInner, HeldLeaf, held, held_leaf, held_under, leaf_at, StandsIn, AllStandIn, Tree, Leaf, Inner, Branches, NoBranch, Branch, leaves, branch_leaves, texts, places, branch_places, IsAlone, IsArt, entry_among, entry_at, HasEntry, IsEmpty, IsAtEnd, IsWithin, End, First, Last, HoldEntries, IsLoaded, leaf_pointers, texts_of, scan, leaf_pointer, leaf_kind, the_one, image_inside, inside_image, inside_part, part_inside, text_itself, order_itself, by_text, by_option, LeafKind}
use Rattle.art_steps.proofs.InsertLemmas.NodeLemmas.{one-leaf, some-leaf}
use Rattle.art_links.proofs.HeldNodes.{leaf-of}

not-none : {X : Type 0} (o : Option X) (x : X) → o ≡ Some x → o ≡ None → ⊥
not-none None x some none = absurd (cc)
not-none (Some y) x some none = absurd (cc)

module _ {K V : Type 0} {P : ℕ} (text : K → List ℕ) where
  -- an entry that is found stands in a slot, and has the text
  pub record IsInSlot (slots : List (Option (LeafNode K V P))) (x : List ℕ) (entry : K × V) : Type 0 where
    pub key : ℕ
    pub leaf : LeafNode K V P
    pub at : slice_index_or slots key None ≡ Some leaf
    pub has : text (leaf_key leaf) ≡ x
    pub is : (leaf_key leaf, leaf_value leaf) ≡ entry

  pub entry-from : (slots : List (Option (LeafNode K V P))) (x : List ℕ) (entry : K × V) → entry_among text slots x ≡ Some entry → IsInSlot slots x entry
  entry-from [] x entry is = absurd (cc)
  entry-from (None ∷ slots) x entry is = let rest = entry-from slots x entry is in record { key = suc rest.key; leaf = rest.leaf; at = rest.at; has = rest.has; is = rest.is }
  entry-from (Some leaf ∷ slots) x entry is =
      by_text (text (leaf_key leaf)) x (IsInSlot (Some leaf ∷ slots) x entry)
      (λ same has. let one : Some (leaf_key leaf, leaf_value leaf) ≡ Some entry = rw same at is in record { key = 0; leaf = leaf; at = refl; has = has; is = cc })
      (λ differ never.
      let later : entry_among text slots x ≡ Some entry = rw differ at is in
      let rest = entry-from slots x entry later in
      record { key = suc rest.key; leaf = rest.leaf; at = rest.at; has = rest.has; is = rest.is })

  -- and so it has the text
  pub text-found : (arena : NodeArena K V P) (x : List ℕ) (entry : K × V) → entry_at text arena x ≡ Some entry → text entry.0 ≡ x
  text-found arena x entry found = let slot = entry-from arena.leaf.slots x entry found in ap (λ e. text e.0) (sym slot.is) ∙ slot.has

  -- where a slot has a leaf with the text, an entry is found
  pub entry-some : (slots : List (Option (LeafNode K V P))) (key : ℕ) (leaf : LeafNode K V P) → slice_index_or slots key None ≡ Some leaf → (entry : K × V) × (entry_among text slots (text (leaf_key leaf)) ≡ Some entry)
  entry-some [] key leaf at = absurd (cc)
  entry-some (None ∷ slots) zero leaf at = absurd (cc)
  entry-some (None ∷ slots) (suc key) leaf at = entry-some slots key leaf at
  entry-some (Some other ∷ slots) zero leaf at =
      let same : other ≡ leaf = cc in
      let is : pointwise nat_eq (text (leaf_key other)) (text (leaf_key leaf)) ≡ true = ap (λ l. pointwise nat_eq (text (leaf_key l)) (text (leaf_key leaf))) same ∙ text_itself (text (leaf_key leaf)) in
      ((leaf_key other, leaf_value other), rw is refl)
  entry-some (Some other ∷ slots) (suc key) leaf at =
      let rest = entry-some slots key leaf at in
      by_text (text (leaf_key other)) (text (leaf_key leaf)) ((entry : K × V) × (entry_among text (Some other ∷ slots) (text (leaf_key leaf)) ≡ Some entry))
      (λ same is. ((leaf_key other, leaf_value other), rw same refl)) (λ differ never. (rest.0, rw differ rest.1))

  -- an arena that holds nothing has no entry
  pub empty-entry : (arena : NodeArena K V P) → ((pointer : OpaqueNodePtr K V P) → held arena pointer ≡ Nothing) → (x : List ℕ) → entry_at text arena x ≡ None
  empty-entry arena nothing x = by_option (entry_at text arena x) (entry_at text arena x ≡ None) (λ is. is) (λ entry is.
      let slot = entry-from arena.leaf.slots x entry is in
      let wrong : HeldLeaf slot.leaf ≡ Nothing = sym (ap (held_leaf {H = OpaqueNodePtr K V P}) slot.at) ∙ nothing (opaque_pointer LeafKind slot.key) in absurd (cc))

  module _ (arena : NodeArena K V P) where
    mutual
      -- a place of a tree that holds a leaf is one of its leaves
      pub leaf-in : (tree : Tree (OpaqueNodePtr K V P)) → StandsIn text arena tree → (q : OpaqueNodePtr K V P) (leaf : LeafNode K V P) → Contains (places tree) q → held arena q ≡ HeldLeaf leaf → Contains (leaves tree) (q, text (leaf_key leaf))
      leaf-in (Leaf pointer x) (own, holds, has) q leaf inside is =
          let same : pointer ≡ q = the_one pointer q inside in
          let texts_same : x ≡ text (leaf_key leaf) = sym has ∙ ap (λ l. text (leaf_key l)) (one-leaf (held arena pointer) own leaf holds (ap (held arena) same ∙ is)) in
          (0, omega arith, λ i. (same i, texts_same i))
      leaf-in (Inner pointer prefix branches) (node, holds, shows, stand) q leaf inside is = elim (Contains-append_cases (pointer ∷ []) (branch_places branches) q inside) [
        | inl here ↦ let wrong : HeldInner node ≡ HeldLeaf leaf = sym holds ∙ ap (held arena) (the_one pointer q here) ∙ is in absurd (cc)
        | inr below ↦ branch-leaf-in branches stand q leaf below is
      ]

      branch-leaf-in : (branches : Branches (OpaqueNodePtr K V P)) → AllStandIn text arena branches → (q : OpaqueNodePtr K V P) (leaf : LeafNode K V P) → Contains (branch_places branches) q → held arena q ≡ HeldLeaf leaf → Contains (branch_leaves branches) (q, text (leaf_key leaf))
      branch-leaf-in NoBranch stand q leaf (k, inside, at) is = absurd (omega (arith, inside))
      branch-leaf-in (Branch byte tree others) (stands, stand) q leaf inside is = elim (Contains-append_cases (places tree) (branch_places others) q inside) [
        | inl here ↦ Contains-append_left (leaves tree) (branch_leaves others) (q, text (leaf_key leaf)) (leaf-in tree stands q leaf here is)
        | inr later ↦ Contains-append_right (leaves tree) (branch_leaves others) (q, text (leaf_key leaf)) (branch-leaf-in others stand q leaf later is)
      ]

    mutual
      -- a leaf of a tree is held, with its text
      pub leaf-held-in : (tree : Tree (OpaqueNodePtr K V P)) → StandsIn text arena tree → (q : OpaqueNodePtr K V P) (x : List ℕ) → Contains (leaves tree) (q, x) → (leaf : LeafNode K V P) × (held arena q ≡ HeldLeaf leaf) × (text (leaf_key leaf) ≡ x)
      leaf-held-in (Leaf pointer y) (own, holds, has) q x inside =
          let same : (pointer, y) ≡ (q, x) = the_one (pointer, y) (q, x) inside in (own, ap (held arena) (sym (ap (λ p. p.0) same)) ∙ holds, has ∙ ap (λ p. p.1) same)
      leaf-held-in (Inner pointer prefix branches) (node, holds, shows, stand) q x inside = branch-leaf-held-in branches stand q x inside

      branch-leaf-held-in : (branches : Branches (OpaqueNodePtr K V P)) → AllStandIn text arena branches → (q : OpaqueNodePtr K V P) (x : List ℕ) → Contains (branch_leaves branches) (q, x) → (leaf : LeafNode K V P) × (held arena q ≡ HeldLeaf leaf) × (text (leaf_key leaf) ≡ x)
      branch-leaf-held-in NoBranch stand q x (k, inside, at) = absurd (omega (arith, inside))
      branch-leaf-held-in (Branch byte tree others) (stands, stand) q x inside = elim (Contains-append_cases (leaves tree) (branch_leaves others) (q, x) inside) [
        | inl here ↦ leaf-held-in tree stands q x here
        | inr later ↦ branch-leaf-held-in others stand q x later
      ]

-- no text is a prefix of another
abbrev pub AreApart : List (List ℕ) → Type 0
AreApart texts = AllPairs (λ a b. (IsPrefixOf a b → ⊥) × (IsPrefixOf b a → ⊥)) texts

-- an arena has no entry just where it has no root
pub empty-if-none : {K V : Type 0} {P : ℕ} (text : K → List ℕ) (arena : NodeArena K V P) → ((root : OpaqueNodePtr K V P) (tree : Tree (OpaqueNodePtr K V P)) → IsAlone text arena root tree → (x : List ℕ) × HasEntry text arena x) → (root : Option (OpaqueNodePtr K V P)) → IsArt text arena root → (t : Bool) → is_some root ≡ not t
    → (IsTrue t → IsEmpty text arena) × (IsEmpty text arena → IsTrue t)
empty-if-none text arena some None nothing t is = (λ _. empty-entry text arena nothing, λ _. is_none t is)
  where
    is_none : (t : Bool) → false ≡ not t → IsTrue t
    is_none true same = refl
    is_none false same = absurd (cc)
empty-if-none text arena some (Some root) (tree, alone) t is = (λ holds. absurd (never t is holds), λ none. absurd ((some root tree alone).1 (none (some root tree alone).0)))
  where
    never : (t : Bool) → true ≡ not t → IsTrue t → ⊥
    never true same holds = absurd (cc)
    never false same holds = absurd (cc)

module _ {H : Type 0} where
  -- a leaf with each of the texts
  pub leaf-with : (all : List (H × List ℕ)) (x : List ℕ) → Contains (map (λ leaf. leaf.1) all) x → (p : H) × Contains all (p, x)
  leaf-with all x inside = let from = inside_image (λ leaf. leaf.1) all x inside in (from.0.0, subst (λ text. Contains all (from.0.0, text)) from.2 from.1)

  pub not-later : (y : H × List ℕ) (ys : List (H × List ℕ)) (p q : H) (x : List ℕ) → AreApart (map (λ pair. pair.1) (y ∷ ys)) → y ≡ (p, x) → Contains ys (q, x) → ⊥
  not-later y ys p q x apart here inside =
      let first : y.1 ≡ x = ap (λ pair. pair.1) here in
      let later = image_inside (λ pair. pair.1) ys (q, x) x refl inside in
      (apart 0 (suc later.0) x (omega arith) (omega (arith, later.1))).0 ([], later.2 ∙ sym first ∙ sym (append-nil y.1))

  -- so a text stands at one place of a list of them
  pub one-member : (all : List (H × List ℕ)) (p q : H) (x : List ℕ) → AreApart (map (λ pair. pair.1) all) → Contains all (p, x) → Contains all (q, x) → p ≡ q
  one-member [] p q x apart (k, inside, is) other = absurd (omega (arith, inside))
  one-member (y ∷ ys) p q x apart first second = elim (Contains-append_cases (y ∷ []) ys (p, x) first) [
    | inl here ↦ elim (Contains-append_cases (y ∷ []) ys (q, x) second) [
      | inl too ↦ ap (λ pair. pair.0) (sym (the_one y (p, x) here) ∙ the_one y (q, x) too)
      | inr later ↦ absurd (not-later y ys p q x apart (the_one y (p, x) here) later)
    ]
    | inr later ↦ elim (Contains-append_cases (y ∷ []) ys (q, x) second) [
      | inl here ↦ absurd (not-later y ys q p x apart (the_one y (q, x) here) later)
      | inr too ↦ one-member ys p q x (λ i j d before inside. apart (suc i) (suc j) d (omega (arith, before)) (omega (arith, inside))) later too
    ]
  ]

-- a scan has exactly the members with the text
module _ {H : Type 0} where
  pub in-scan : (all : List (H × List ℕ)) (p : H) (x : List ℕ) → Contains all (p, x) → Contains (filter (λ leaf. pointwise nat_eq leaf.1 x) all) (p, x)
  in-scan all p x inside = inside_part (λ leaf. pointwise nat_eq leaf.1 x) all (p, x) inside (text_itself x)

  pub scan-in : (all : List (H × List ℕ)) (p : H) (x : List ℕ) → Contains (filter (λ leaf. pointwise nat_eq leaf.1 x) all) (p, x) → Contains all (p, x)
  scan-in all p x inside = (part_inside (λ leaf. pointwise nat_eq leaf.1 x) all (p, x) inside).0

module _ {K V : Type 0} {P : ℕ} (text : K → List ℕ) (arena : NodeArena K V P) (root : OpaqueNodePtr K V P) (tree : Tree (OpaqueNodePtr K V P)) (alone : IsAlone text arena root tree) where
  -- the entry of the dictionary is held at a leaf of the tree
  pub record IsLeafWith (x : List ℕ) (entry : K × V) : Type 0 where
    pub pointer : OpaqueNodePtr K V P
    pub leaf : LeafNode K V P
    pub held_there : held arena pointer ≡ HeldLeaf leaf
    pub has : text (leaf_key leaf) ≡ x
    pub inside : Contains (leaves tree) (pointer, x)
    pub is : (leaf_key leaf, leaf_value leaf) ≡ entry

  pub leaf-of-entry : (x : List ℕ) (entry : K × V) → entry_at text arena x ≡ Some entry → IsLeafWith x entry
  leaf-of-entry x entry is =
      let slot = entry-from text arena.leaf.slots x entry is in
      let pointer = opaque_pointer {K = K} {V = V} {P = P} LeafKind slot.key in
      let there : held arena pointer ≡ HeldLeaf slot.leaf = ap held_leaf slot.at in
      let inside = leaf-in text arena tree alone.is_tree.stands pointer slot.leaf (alone.no_others pointer (some-leaf (held arena pointer) slot.leaf there)) there in
      record { pointer = pointer; leaf = slot.leaf; held_there = there; has = slot.has; inside = subst (λ t. Contains (leaves tree) (pointer, t)) slot.has inside; is = slot.is }

  -- and what a leaf holds is an entry of the dictionary
  pub entry-of-leaf : AreApart (texts tree) → (key : ℕ) (leaf : LeafNode K V P) → slice_index_or arena.leaf.slots key None ≡ Some leaf → entry_at text arena (text (leaf_key leaf)) ≡ Some (leaf_key leaf, leaf_value leaf)
  entry-of-leaf apart key leaf at =
      let some = entry-some text arena.leaf.slots key leaf at in
      let found = leaf-of-entry (text (leaf_key leaf)) some.0 some.1 in
      let pointer = opaque_pointer {K = K} {V = V} {P = P} LeafKind key in
      let there : held arena pointer ≡ HeldLeaf leaf = ap held_leaf at in
      let inside = leaf-in text arena tree alone.is_tree.stands pointer leaf (alone.no_others pointer (some-leaf (held arena pointer) leaf there)) there in
      let one : found.pointer ≡ pointer = one-member (leaves tree) found.pointer pointer (text (leaf_key leaf)) apart found.inside inside in
      let same = one-leaf (held arena found.pointer) found.leaf leaf found.held_there (ap (held arena) one ∙ there) in
      some.1 ∙ ap Some (sym found.is ∙ ap (λ l. (leaf_key l, leaf_value l)) same)

  -- a key of which the tree has no leaf has no entry
  pub no-entry : (x : List ℕ) → scan tree x ≡ [] → entry_at text arena x ≡ None
  no-entry x none = by_option (entry_at text arena x) (entry_at text arena x ≡ None) (λ is. is) (λ entry is.
      let found = leaf-of-entry x entry is in
      let (k, inside, at) = in-scan (leaves tree) found.pointer x found.inside in
      absurd (omega (arith, inside, ap length none)))

  -- an entry that a leaf of the tree holds is that of its text
  pub held-entry : AreApart (texts tree) → (pointer : OpaqueNodePtr K V P) (leaf : LeafNode K V P) → held arena pointer ≡ HeldLeaf leaf → entry_at text arena (text (leaf_key leaf)) ≡ Some (leaf_key leaf, leaf_value leaf)
  held-entry apart pointer leaf is =
      let kind = leaf_kind arena (node_kind pointer) (opaque_key pointer) leaf is in
      let slot = leaf-of (leaf_at arena (opaque_key pointer)) leaf (sym (ap (λ k. held_under arena k (opaque_key pointer)) kind) ∙ is) in
      entry-of-leaf apart (opaque_key pointer) leaf slot

  -- so a text has an entry where it is one of the tree's
  pub text-of-entry : (x : List ℕ) → entry_at text arena x ≢ None → Contains (texts tree) x
  text-of-entry x some =
      by_option (entry_at text arena x) (Contains (texts tree) x) (λ none. absurd (some none)) (λ entry is.
      let found = leaf-of-entry x entry is in image_inside (λ pair. pair.1) (leaves tree) (found.pointer, x) x refl found.inside)

  pub entry-of-text : AreApart (texts tree) → (x : List ℕ) → Contains (texts tree) x → entry_at text arena x ≢ None
  entry-of-text apart x inside none =
      let one = leaf-with (leaves tree) x inside in
      let there = leaf-held-in text arena tree alone.is_tree.stands one.0 x one.1 in
      not-none (entry_at text arena (text (leaf_key there.0))) (leaf_key there.0, leaf_value there.0) (held-entry apart one.0 there.0 there.1) (ap (entry_at text arena) there.2 ∙ none)

  -- and a leaf of the tree holds the entry of its text
  pub entry-of-member : AreApart (texts tree) → (pointer : OpaqueNodePtr K V P) (x : List ℕ) (leaf : LeafNode K V P) → Contains (leaves tree) (pointer, x) → held arena pointer ≡ HeldLeaf leaf → entry_at text arena x ≡ Some (leaf_key leaf, leaf_value leaf)
  entry-of-member apart pointer x leaf inside is =
      let there = leaf-held-in text arena tree alone.is_tree.stands pointer x inside in
      let same = one-leaf (held arena pointer) leaf there.0 is there.1 in
      ap (entry_at text arena) (sym there.2 ∙ ap (λ l. text (leaf_key l)) (sym same)) ∙ held-entry apart pointer leaf is

module _ {K V : Type 0} {P : ℕ} (text : K → List ℕ) (arena : NodeArena K V P) where
  -- the texts of entries that leaves hold
  text-of-held : (pointers : List (OpaqueNodePtr K V P)) (entries : List (K × V)) (q : OpaqueNodePtr K V P) (leaf : LeafNode K V P) → HoldEntries arena pointers entries → Contains pointers q → held arena q ≡ HeldLeaf leaf → Contains (texts_of text entries) (text (leaf_key leaf))
  text-of-held [] entries q leaf hold (k, inside, is) there = absurd (omega (arith, inside))
  text-of-held (p ∷ pointers) [] q leaf hold inside there = absurd hold
  text-of-held (p ∷ pointers) (entry ∷ entries) q leaf hold inside there = elim (Contains-append_cases (p ∷ []) pointers q inside) [
    | inl here ↦
        let same = one-leaf (held arena p) hold.0.0 leaf hold.0.1 (ap (held arena) (the_one p q here) ∙ there) in
        (0, omega arith, ap text (sym hold.0.2 ∙ ap leaf_key same))
    | inr later ↦ Contains-append_right (text entry.0 ∷ []) (texts_of text entries) (text (leaf_key leaf)) (text-of-held pointers entries q leaf hold.1 later there)
  ]

  -- the leaf that holds an entry
  pub record HoldsEntry (entry : K × V) : Type 0 where
    pub pointer : OpaqueNodePtr K V P
    pub leaf : LeafNode K V P
    pub is_held : held arena pointer ≡ HeldLeaf leaf
    pub key : leaf_key leaf ≡ entry.0
    pub value : leaf_value leaf ≡ entry.1

  pub entry-held : (pointers : List (OpaqueNodePtr K V P)) (entries : List (K × V)) → HoldEntries arena pointers entries → (k : ℕ) (d : K × V) → k < length entries → HoldsEntry (get_or entries k d)
  entry-held [] [] hold k d inside = absurd (omega (arith, inside))
  entry-held [] (entry ∷ entries) hold k d inside = absurd hold
  entry-held (p ∷ pointers) [] hold k d inside = absurd hold
  entry-held (p ∷ pointers) (entry ∷ entries) hold zero d inside = record { pointer = p; leaf = hold.0.0; is_held = hold.0.1; key = hold.0.2; value = hold.0.3 }
  entry-held (p ∷ pointers) (entry ∷ entries) hold (suc k) d inside = entry-held pointers entries hold.1 k d (omega (arith, inside))

  module _ (old : NodeArena K V P) (free : (pointer : OpaqueNodePtr K V P) → held old pointer ≡ Nothing) (entries : List (K × V)) (root : OpaqueNodePtr K V P) (tree : Tree (OpaqueNodePtr K V P)) (is : IsLoaded text old arena entries root tree) (short : All (λ x. length x < 2 ^ 32) (texts_of text entries)) where
    -- a text of the tree is that of an entry, and so is short
    short-there : All (λ x. length x < 2 ^ 32) (texts tree)
    short-there = All-map (λ x. length x < 2 ^ 32) (λ (pair : OpaqueNodePtr K V P × List ℕ). pair.1) (leaves tree) (λ k d inside.
        let pair = get_or (leaves tree) k d in
        let there = Contains-get_or (leaves tree) k d inside in
        let leaf = leaf-held-in text arena tree is.is_tree.stands pair.0 pair.1 there in
        let entry = text-of-held (leaf_pointers tree) entries pair.0 leaf.0 is.hold (image_inside (λ pair. pair.0) (leaves tree) pair pair.0 refl there) leaf.1 in
        subst (λ x. length x < 2 ^ 32) leaf.2 (All-contains (λ x. length x < 2 ^ 32) (texts_of text entries) (text (leaf_key leaf.0)) short entry))

    -- what is loaded into an empty arena is alone there
    pub alone-loaded : IsAlone text arena root tree
    alone-loaded = record { is_tree = is.is_tree; smallest_kinds = is.smallest_kinds; short = short-there; is_linked = is.is_linked; no_others = λ pointer is_held. is.adds.no_others pointer (free pointer) is_held }

    -- and the dictionary is that of the entries
    pub loaded-entry : AreApart (texts tree) → (k : ℕ) (d : K × V) → k < length entries → entry_at text arena (text (get_or entries k d).0) ≡ Some (get_or entries k d)
    loaded-entry apart k d inside =
        let one = entry-held (leaf_pointers tree) entries is.hold k d inside in
        ap (λ key. entry_at text arena (text key)) (sym one.key) ∙ held-entry text arena root tree alone-loaded apart one.pointer one.leaf one.is_held ∙ ap Some (λ i. (one.key i, one.value i))

    pub loaded-text : (x : List ℕ) → entry_at text arena x ≢ None → Contains (texts_of text entries) x
    loaded-text x some =
        by_option (entry_at text arena x) (Contains (texts_of text entries) x) (λ none. absurd (some none)) (λ entry found.
        let leaf = leaf-of-entry text arena root tree alone-loaded x entry found in
        subst (Contains (texts_of text entries)) leaf.has (text-of-held (leaf_pointers tree) entries leaf.pointer leaf.leaf is.hold (image_inside (λ pair. pair.0) (leaves tree) (leaf.pointer, x) leaf.pointer refl leaf.inside) leaf.held_there))

-- the result where there is no entry
pub nothing-mapped : {A B : Type 0} (f : A → B) (result : Option A) (entry : Option B) → result ≡ None → entry ≡ None → option_map f result ≡ entry
nothing-mapped f result entry none no_entry = ap (option_map f) none ∙ sym no_entry

-- the entry at an end
module _ {H : Type 0} (R : List ℕ → List ℕ → Type 0) where
  pub after-first : (y : H × List ℕ) (ys : List (H × List ℕ)) (q : H) (z : List ℕ) → AllPairs R (map (λ pair. pair.1) (y ∷ ys)) → Contains ys (q, z) → R y.1 z
  after-first y ys q z pairs inside = let later = image_inside (λ pair. pair.1) ys (q, z) z refl inside in subst (R y.1) later.2 (pairs 0 (suc later.0) z (omega arith) (omega (arith, later.1)))

  before-last : (others : List (H × List ℕ)) (p : H) (x : List ℕ) (q : H) (z : List ℕ) → AllPairs R (map (λ pair. pair.1) (others ++ (p, x) ∷ [])) → Contains others (q, z) → R z x
  before-last [] p x q z pairs (k, inside, is) = absurd (omega (arith, inside))
  before-last (y ∷ ys) p x q z pairs inside = elim (Contains-append_cases (y ∷ []) ys (q, z) inside) [
    | inl here ↦ subst (λ t. R t x) (ap (λ pair. pair.1) (the_one y (q, z) here)) (after-first y (ys ++ (p, x) ∷ []) p x pairs (Contains-append_right ys ((p, x) ∷ []) (p, x) (0, omega arith, refl)))
    | inr later ↦ before-last ys p x q z (λ i j d before within. pairs (suc i) (suc j) d (omega (arith, before)) (omega (arith, within))) later
  ]

pub within-end : {H : Type 0} (end : End) (all : List (H × List ℕ)) (p : H) (at_end : IsAtEnd end all p) → AllPairs (λ a b. text_order a b ≡ Less) (map (λ pair. pair.1) all) → (q : H) (z : List ℕ) → Contains all (q, z) → IsWithin end at_end.0 z
within-end First all p (x, others, is) ascend q z inside = elim (Contains-append_cases ((p, x) ∷ []) others (q, z) (subst (λ l. Contains l (q, z)) is inside)) [
  | inl here ↦ λ greater. let one = sym (order_itself x) ∙ ap (text_order x) (ap (λ pair. pair.1) (the_one (p, x) (q, z) here)) ∙ greater in absurd (cc)
  | inr later ↦ λ greater. let less = after-first (λ a b. text_order a b ≡ Less) (p, x) others q z (subst (λ l. AllPairs (λ a b. text_order a b ≡ Less) (map (λ pair. pair.1) l)) is ascend) later in absurd (cc)
]
within-end Last all p (x, others, is) ascend q z inside = elim (Contains-append_cases others ((p, x) ∷ []) (q, z) (subst (λ l. Contains l (q, z)) is inside)) [
  | inl earlier ↦ λ less. let before = before-last (λ a b. text_order a b ≡ Less) others p x q z (subst (λ l. AllPairs (λ a b. text_order a b ≡ Less) (map (λ pair. pair.1) l)) is ascend) earlier in let greater : text_order x z ≡ Greater = nat_list_cmp_total.antisymm x z ∙ ap ordering_reverse before in absurd (cc)
  | inr here ↦ λ less. let one = sym (order_itself x) ∙ ap (text_order x) (ap (λ pair. pair.1) (the_one (p, x) (q, z) here)) ∙ less in absurd (cc)
]

pub end-in : {H : Type 0} (end : End) (all : List (H × List ℕ)) (p : H) (at_end : IsAtEnd end all p) → Contains all (p, at_end.0)
end-in First all p (x, others, is) = subst (λ l. Contains l (p, x)) (sym is) (0, omega arith, refl)
end-in Last all p (x, others, is) = subst (λ l. Contains l (p, x)) (sym is) (Contains-append_right others ((p, x) ∷ []) (p, x) (0, omega arith, refl))

module _ {K V : Type 0} {P : ℕ} (text : K → List ℕ) (arena : NodeArena K V P) (end : End) (root : OpaqueNodePtr K V P) (tree : Tree (OpaqueNodePtr K V P)) (alone : IsAlone text arena root tree) (leaf : LeafPtr K V P) (at_end : IsAtEnd end (leaves tree) (leaf_pointer leaf)) where
  -- the leaf at an end is held, with its text
  pub end-held : (node : LeafNode K V P) × (leaf_at arena (slab_key leaf) ≡ Some node) × (text (leaf_key node) ≡ at_end.0)
  end-held = let there = leaf-held-in text arena tree alone.is_tree.stands (leaf_pointer leaf) at_end.0 (end-in end (leaves tree) (leaf_pointer leaf) at_end) in (there.0, leaf-of (leaf_at arena (slab_key leaf)) there.0 there.1, there.2)

  module _ (key : K) (value : V) (is_key : option_map leaf_key (leaf_at arena (slab_key leaf)) ≡ Some key) (is_value : option_map leaf_value (leaf_at arena (slab_key leaf)) ≡ Some value) where
    key-is : leaf_key end-held.0 ≡ key
    key-is = same_Some (leaf_key end-held.0) key (sym (ap (option_map leaf_key) end-held.1) ∙ is_key)

    value-is : leaf_value end-held.0 ≡ value
    value-is = same_Some (leaf_value end-held.0) value (sym (ap (option_map leaf_value) end-held.1) ∙ is_value)

    pub end-entry : AreApart (texts tree) → entry_at text arena (text key) ≡ Some (key, value)
    end-entry apart = ap (λ k. entry_at text arena (text k)) (sym key-is) ∙ entry-of-leaf text arena root tree alone apart (slab_key leaf) end-held.0 end-held.1 ∙ ap Some (λ i. (key-is i, value-is i))

    pub end-within : AllPairs (λ a b. text_order a b ≡ Less) (texts tree) → (other : List ℕ) → entry_at text arena other ≢ None → IsWithin end (text key) other
    end-within ascend other some =
        by_option (entry_at text arena other) (IsWithin end (text key) other) (λ none. absurd (some none)) (λ entry found.
        let has = leaf-of-entry text arena root tree alone other entry found in
        subst (λ t. IsWithin end t other) (sym end-held.2 ∙ ap text key-is) (within-end end (leaves tree) (leaf_pointer leaf) at_end ascend has.pointer other has.inside))

pub slot-held : {K V : Type 0} {P : ℕ} (arena : NodeArena K V P) (key : ℕ) (leaf : LeafNode K V P) → leaf_at arena key ≡ Some leaf → held arena (opaque_pointer LeafKind key) ≢ Nothing
slot-held arena key leaf is none = let wrong : HeldLeaf leaf ≡ Nothing = sym (ap held_leaf is) ∙ none in absurd (cc)
