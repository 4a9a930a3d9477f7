-- An arena that holds one tree holds as many nodes of each kind as the tree has.
use Rattle.art_tree.proofs.Names.{◌≡◌, ◌≢◌, ◌∙◌, ℕ, zero, suc, ◌+◌, ◌-◌, ◌≤◌, cond, List, [], ◌∷◌, ◌++◌, length, get_or, All, Contains, Option, Some, None, slice_index_or, nat_eq, refl, sym, ap, subst, inl, inr, arith, count_by, is_some, sum_by-cons, All-contains, Contains-get_or, Contains-append_right, Contains-append_cases, NodeType, node_kind, opaque_key, opaque_pointer, OpaqueNodePtr, same_or_differ, NodeArena, Nothing, held, held_inner, held_leaf, room, capacity, AreDistinct, StandsIn, AllStandIn, Tree, Leaf, Inner, Branches, NoBranch, Branch, places, branch_places, leaf_kind, IsAlone, HasSmallestKinds, HaveSmallestKinds, one_if_same, nodes_of, branch_nodes_of, the_one, Node, LeafKind, Node16, Node256, Node4, Node48}
use Rattle.art_steps.proofs.SharedLemmas.ChangedTree.{place-held}
use Rattle.art_tree.proofs.SharedLemmas.EntryCounts.{HasEach, distinct-fit}
use Rattle.art_tree.proofs.SharedLemmas.NodeBounds.{one-differ}
use Rattle.art_tree.proofs.SharedLemmas.NodeCounts.{one-same}

-- the numbers but zero, each lower by one
abbrev lower : List ℕ → List ℕ
lower [] = []
lower (zero ∷ keys) = lower keys
lower (suc k ∷ keys) = k ∷ lower keys

lower-short : (keys : List ℕ) → length (lower keys) ≤ length keys
lower-short [] = omega arith
lower-short (zero ∷ keys) = let rest = lower-short keys in omega (arith, rest)
lower-short (suc k ∷ keys) = let rest = lower-short keys in omega (arith, rest)

lower-less : (keys : List ℕ) → Contains keys 0 → length (lower keys) + 1 ≤ length keys
lower-less [] inside = absurd (omega (arith, inside.1))
lower-less (zero ∷ keys) inside = let rest = lower-short keys in omega (arith, rest)
lower-less (suc k ∷ keys) inside = elim (Contains-append_cases (suc k ∷ []) keys 0 inside) [
  | inl here ↦ let same = the_one (suc k) 0 here in absurd (omega (arith, same))
  | inr later ↦ let rest = lower-less keys later in omega (arith, rest)
]

lower-inside : (keys : List ℕ) (i : ℕ) → Contains keys (suc i) → Contains (lower keys) i
lower-inside [] i inside = absurd (omega (arith, inside.1))
lower-inside (zero ∷ keys) i inside = elim (Contains-append_cases (zero ∷ []) keys (suc i) inside) [
  | inl here ↦ let same = the_one zero (suc i) here in absurd (omega (arith, same))
  | inr later ↦ lower-inside keys i later
]
lower-inside (suc k ∷ keys) i inside = elim (Contains-append_cases (suc k ∷ []) keys (suc i) inside) [
  | inl here ↦ let same = the_one (suc k) (suc i) here in (0, omega arith, omega (arith, same))
  | inr later ↦ Contains-append_right (k ∷ []) (lower keys) i (lower-inside keys i later)
]

-- slots that have something are no more than keys among which each of theirs is
covered-fit : {X : Type 0} (slots : List (Option X)) (keys : List ℕ) → ((i : ℕ) → slice_index_or slots i None ≢ None → Contains keys i) → count_by is_some slots ≤ length keys
covered-fit [] keys covers = omega arith
covered-fit (None ∷ slots) keys covers =
    let rest = covered-fit slots (lower keys) (λ i some. lower-inside keys i (covers (suc i) some)) in
    omega (arith, rest, lower-short keys)
covered-fit {X} (Some x ∷ slots) keys covers =
    let rest = covered-fit slots (lower keys) (λ i some. lower-inside keys i (covers (suc i) some)) in
    let more : count_by is_some (Some x ∷ slots) ≡ 1 + count_by is_some slots = sum_by-cons (λ (o : Option X). cond (is_some o) 1 0) (Some x) slots in
    let less = lower-less keys (covers 0 (λ none. let wrong : Some x ≡ None = none in absurd (cc))) in
    omega (arith, rest, more, less)

-- how many nodes of a kind an arena holds
abbrev pub held_count : {K V : Type 0} {P : ℕ} → NodeArena K V P → NodeType → ℕ
held_count arena Node4 = count_by is_some arena.node4.slots
held_count arena Node16 = count_by is_some arena.node16.slots
held_count arena Node48 = count_by is_some arena.node48.slots
held_count arena Node256 = count_by is_some arena.node256.slots
held_count arena LeafKind = count_by is_some arena.leaf.slots

pub room-left : {K V : Type 0} {P : ℕ} (arena : NodeArena K V P) (kind : NodeType) → room arena kind ≡ capacity arena kind - held_count arena kind
room-left arena Node4 = refl
room-left arena Node16 = refl
room-left arena Node48 = refl
room-left arena Node256 = refl
room-left arena LeafKind = refl

inner-none : {H L : Type 0} (o : Option (Node H)) → held_inner {H = H} {L = L} o ≡ Nothing → o ≡ None
inner-none None is = refl
inner-none (Some node) is = absurd (cc)

leaf-none : {H L : Type 0} (o : Option L) → held_leaf {H = H} {L = L} o ≡ Nothing → o ≡ None
leaf-none None is = refl
leaf-none (Some leaf) is = absurd (cc)

module _ {K V : Type 0} {P : ℕ} (kind : NodeType) where
  -- the slab keys of the pointers of the kind
  abbrev keys_under : List (OpaqueNodePtr K V P) → List ℕ
  keys_under [] = []
  keys_under (pointer ∷ pointers) = cond (nat_eq (one_if_same kind (node_kind pointer)) 1) (opaque_key pointer ∷ keys_under pointers) (keys_under pointers)

  keys-of-kind : (pointer : OpaqueNodePtr K V P) (pointers : List (OpaqueNodePtr K V P)) → kind ≡ node_kind pointer → keys_under (pointer ∷ pointers) ≡ opaque_key pointer ∷ keys_under pointers
  keys-of-kind pointer pointers same = let one : one_if_same kind (node_kind pointer) ≡ 1 = ap (one_if_same kind) (sym same) ∙ one-same kind in rw one refl

  keys-of-other : (pointer : OpaqueNodePtr K V P) (pointers : List (OpaqueNodePtr K V P)) → kind ≢ node_kind pointer → keys_under (pointer ∷ pointers) ≡ keys_under pointers
  keys-of-other pointer pointers differ = let none = one-differ kind (node_kind pointer) differ in rw none refl

  -- they are as many as pointers of the kind
  keys-step : (pointer : OpaqueNodePtr K V P) (pointers : List (OpaqueNodePtr K V P)) → length (keys_under (pointer ∷ pointers)) ≡ one_if_same kind (node_kind pointer) + length (keys_under pointers)
  keys-step pointer pointers = elim (same_or_differ kind (node_kind pointer)) [
    | inl same ↦
        let one : one_if_same kind (node_kind pointer) ≡ 1 = ap (one_if_same kind) (sym same) ∙ one-same kind in
        let is = ap length (keys-of-kind pointer pointers same) in
        omega (arith, one, is)
    | inr differ ↦
        let none = one-differ kind (node_kind pointer) differ in
        let is = ap length (keys-of-other pointer pointers differ) in
        omega (arith, none, is)
  ]

  keys-append : (front back : List (OpaqueNodePtr K V P)) → length (keys_under (front ++ back)) ≡ length (keys_under front) + length (keys_under back)
  keys-append [] back = omega arith
  keys-append (pointer ∷ front) back =
      let rest = keys-append front back in
      let step = keys-step pointer front in
      let all = keys-step pointer (front ++ back) in
      omega (arith, rest, step, all)

  -- a key is that of a pointer of the kind
  key-place : (pointers : List (OpaqueNodePtr K V P)) (key : ℕ) → Contains (keys_under pointers) key → Contains pointers (opaque_pointer kind key)
  key-place [] key inside = absurd (omega (arith, inside.1))
  key-place (pointer ∷ pointers) key inside = elim (same_or_differ kind (node_kind pointer)) [
    | inl same ↦ elim (Contains-append_cases (opaque_key pointer ∷ []) (keys_under pointers) key (subst (λ all. Contains all key) (keys-of-kind pointer pointers same) inside)) [
      | inl here ↦
          let is : pointer ≡ opaque_pointer kind key = ap (λ k. opaque_pointer k (opaque_key pointer)) (sym same) ∙ ap (opaque_pointer kind) (the_one (opaque_key pointer) key here) in
          (0, omega arith, is)
      | inr later ↦ Contains-append_right (pointer ∷ []) pointers (opaque_pointer kind key) (key-place pointers key later)
    ]
    | inr differ ↦ Contains-append_right (pointer ∷ []) pointers (opaque_pointer kind key) (key-place pointers key (subst (λ all. Contains all key) (keys-of-other pointer pointers differ) inside))
  ]

  place-key : (pointers : List (OpaqueNodePtr K V P)) (key : ℕ) → Contains pointers (opaque_pointer kind key) → Contains (keys_under pointers) key
  place-key [] key inside = absurd (omega (arith, inside.1))
  place-key (pointer ∷ pointers) key inside = elim (Contains-append_cases (pointer ∷ []) pointers (opaque_pointer kind key) inside) [
    | inl here ↦
        let is = the_one pointer (opaque_pointer kind key) here in
        subst (λ all. Contains all key) (sym (keys-of-kind pointer pointers (sym (ap node_kind is)))) (0, omega arith, ap opaque_key is)
    | inr later ↦
        let rest = place-key pointers key later in
        elim (same_or_differ kind (node_kind pointer)) [
          | inl same ↦ subst (λ all. Contains all key) (sym (keys-of-kind pointer pointers same)) (Contains-append_right (opaque_key pointer ∷ []) (keys_under pointers) key rest)
          | inr differ ↦ subst (λ all. Contains all key) (sym (keys-of-other pointer pointers differ)) rest
        ]
  ]

  -- distinct pointers have distinct keys
  keys-distinct : (pointers : List (OpaqueNodePtr K V P)) → AreDistinct pointers → AreDistinct (keys_under pointers)
  keys-distinct [] distinct = tt
  keys-distinct (pointer ∷ pointers) distinct = elim (same_or_differ kind (node_kind pointer)) [
    | inl same ↦
        let apart : All (λ other. other ≢ opaque_key pointer) (keys_under pointers) = λ i d within is.
        let key = get_or (keys_under pointers) i d in
        let there = key-place pointers key (Contains-get_or (keys_under pointers) i d within) in
        All-contains (λ other. other ≢ pointer) pointers (opaque_pointer kind key) distinct.0 there (ap (opaque_pointer kind) is ∙ ap (λ k. opaque_pointer k (opaque_key pointer)) same) in
        subst AreDistinct (sym (keys-of-kind pointer pointers same)) (apart, keys-distinct pointers distinct.1)
    | inr differ ↦ subst AreDistinct (sym (keys-of-other pointer pointers differ)) (keys-distinct pointers distinct.1)
  ]

  module _ (text : K → List ℕ) (arena : NodeArena K V P) where
    mutual
      keys-of-tree : (tree : Tree (OpaqueNodePtr K V P)) → StandsIn text arena tree → HasSmallestKinds tree → length (keys_under (places tree)) ≡ nodes_of kind tree
      keys-of-tree (Leaf pointer x) (leaf, holds, has) smallest =
          let step = keys-step pointer [] in
          let own = ap (one_if_same kind) (leaf_kind arena (node_kind pointer) (opaque_key pointer) leaf holds) in
          omega (arith, step, own)
      keys-of-tree (Inner pointer prefix branches) (node, holds, shows, stand) smallest =
          let step = keys-step pointer (branch_places branches) in
          let own = ap (one_if_same kind) smallest.0 in
          let rest = keys-of-branches branches stand smallest.1 in
          omega (arith, step, own, rest)

      keys-of-branches : (branches : Branches (OpaqueNodePtr K V P)) → AllStandIn text arena branches → HaveSmallestKinds branches → length (keys_under (branch_places branches)) ≡ branch_nodes_of kind branches
      keys-of-branches NoBranch stand smallest = refl
      keys-of-branches (Branch byte tree others) (stands, stand) smallest =
          let first = keys-of-tree tree stands smallest.0 in
          let rest = keys-of-branches others stand smallest.1 in
          let both = keys-append (places tree) (branch_places others) in
          omega (arith, first, rest, both)

    -- the slots of a kind that have something are as many as the tree's nodes of the kind
    module _ {X : Type 0} (slots : List (Option X)) (shows : (i : ℕ) → slice_index_or slots i None ≢ None → held arena (opaque_pointer kind i) ≢ Nothing) (shown : (i : ℕ) → held arena (opaque_pointer kind i) ≢ Nothing → slice_index_or slots i None ≢ None) where
      tree-slots : (root : OpaqueNodePtr K V P) (tree : Tree (OpaqueNodePtr K V P)) → IsAlone text arena root tree → AreDistinct (places tree) → count_by is_some slots ≡ nodes_of kind tree
      tree-slots root tree alone distinct =
          let keys = keys_under (places tree) in
          let most = covered-fit slots keys (λ i some. place-key (places tree) i (alone.no_others (opaque_pointer kind i) (shows i some))) in
          let each : HasEach slots keys = λ i d within. shown (get_or keys i d) (place-held text arena tree alone.is_tree.stands (opaque_pointer kind (get_or keys i d)) (key-place (places tree) (get_or keys i d) (Contains-get_or keys i d within))) in
          let least = distinct-fit slots keys (keys-distinct (places tree) distinct) each in
          let long = keys-of-tree tree alone.is_tree.stands alone.smallest_kinds in
          omega (arith, most, least, long)

      no-slots : ((pointer : OpaqueNodePtr K V P) → held arena pointer ≡ Nothing) → count_by is_some slots ≡ 0
      no-slots nothing = let most = covered-fit slots [] (λ i some. absurd (shows i some (nothing (opaque_pointer kind i)))) in omega (arith, most)

module _ {K V : Type 0} {P : ℕ} (text : K → List ℕ) (arena : NodeArena K V P) where
  module _ (root : OpaqueNodePtr K V P) (tree : Tree (OpaqueNodePtr K V P)) (alone : IsAlone text arena root tree) (distinct : AreDistinct (places tree)) where
    pub held-nodes : (kind : NodeType) → held_count arena kind ≡ nodes_of kind tree
    held-nodes Node4 = tree-slots Node4 text arena arena.node4.slots (λ i some none. some (inner-none (slice_index_or arena.node4.slots i None) none)) (λ i some none. some (ap held_inner none)) root tree alone distinct
    held-nodes Node16 = tree-slots Node16 text arena arena.node16.slots (λ i some none. some (inner-none (slice_index_or arena.node16.slots i None) none)) (λ i some none. some (ap held_inner none)) root tree alone distinct
    held-nodes Node48 = tree-slots Node48 text arena arena.node48.slots (λ i some none. some (inner-none (slice_index_or arena.node48.slots i None) none)) (λ i some none. some (ap held_inner none)) root tree alone distinct
    held-nodes Node256 = tree-slots Node256 text arena arena.node256.slots (λ i some none. some (inner-none (slice_index_or arena.node256.slots i None) none)) (λ i some none. some (ap held_inner none)) root tree alone distinct
    held-nodes LeafKind = tree-slots LeafKind text arena arena.leaf.slots (λ i some none. some (leaf-none (slice_index_or arena.leaf.slots i None) none)) (λ i some none. some (ap held_leaf none)) root tree alone distinct

  pub held-none : ((pointer : OpaqueNodePtr K V P) → held arena pointer ≡ Nothing) → (kind : NodeType) → held_count arena kind ≡ 0
  held-none nothing Node4 = no-slots Node4 text arena arena.node4.slots (λ i some none. some (inner-none (slice_index_or arena.node4.slots i None) none)) (λ i some none. some (ap held_inner none)) nothing
  held-none nothing Node16 = no-slots Node16 text arena arena.node16.slots (λ i some none. some (inner-none (slice_index_or arena.node16.slots i None) none)) (λ i some none. some (ap held_inner none)) nothing
  held-none nothing Node48 = no-slots Node48 text arena arena.node48.slots (λ i some none. some (inner-none (slice_index_or arena.node48.slots i None) none)) (λ i some none. some (ap held_inner none)) nothing
  held-none nothing Node256 = no-slots Node256 text arena arena.node256.slots (λ i some none. some (inner-none (slice_index_or arena.node256.slots i None) none)) (λ i some none. some (ap held_inner none)) nothing
  held-none nothing LeafKind = no-slots LeafKind text arena arena.leaf.slots (λ i some none. some (leaf-none (slice_index_or arena.leaf.slots i None) none)) (λ i some none. some (ap held_leaf none)) nothing
