-- The entries of an arena are as many as its leaves.
use Rattle.art_tree.proofs.Names.{◌≡◌, ◌≢◌, ◌∙◌, ℕ, zero, suc, ◌+◌, ◌≤◌, List, [], ◌∷◌, length, All, Contains, Option, Some, None, cond, slice_index_or, refl, sym, ap, subst, arith, count_by, is_some, length-map, sum_by-cons, All-nil, All-cons, All-head, All-tail, All-weaker, All-contains, leaf_key, leaf_value, opaque_key, opaque_pointer, OpaqueNodePtr, LeafNode, NodeArena, HeldLeaf, Nothing, held, held_leaf, leaf_count, AreDistinct, IsLinkedList, IsLinkedAfter, Tree, leaves, texts, IsAlone, IsArt, entry_among, entries_among, entries_of, texts_of, inside_image, same_texts, texts-apart, texts-ascend, LeafKind}
use Rattle.art_steps.proofs.InsertLemmas.NodeLemmas.{some-leaf}
use Rattle.art_steps.proofs.SharedLemmas.DictionaryLemmas.{entry-from, entry-of-text, leaf-in, one-member, text-of-entry}
use Rattle.art_tree.proofs.SharedLemmas.EntryLists.{among-each, are-entries, has-entry, put-long}

module _ {X : Type 0} where
  -- each of these slots has something
  abbrev pub HasEach : List (Option X) → List ℕ → Type 0
  HasEach slots keys = All (λ k. slice_index_or slots k None ≢ None) keys

  -- the keys but zero, each of them lower by one
  record Lowered (slots : List (Option X)) (keys : List ℕ) : Type 0 where
    pub rest : List ℕ
    pub distinct : AreDistinct rest
    pub each : HasEach slots rest
    pub apart : (x : ℕ) → All (λ y. y ≢ suc x) keys → All (λ y. y ≢ x) rest
    pub long : length keys ≤ suc (length rest)
    pub none : All (λ k. k ≢ 0) keys → length keys ≤ length rest

  lowered : (o : Option X) (slots : List (Option X)) (keys : List ℕ) → AreDistinct keys → HasEach (o ∷ slots) keys → Lowered slots keys
  lowered o slots [] distinct each = record { rest = []; distinct = tt; each = All-nil (λ k. slice_index_or slots k None ≢ None); apart = λ x all. All-nil (λ y. y ≢ x); long = omega arith; none = λ _. omega arith }
  lowered o slots (zero ∷ keys) distinct each =
      let tail = lowered o slots keys distinct.1 (All-tail (λ k. slice_index_or (o ∷ slots) k None ≢ None) 0 keys each) in
      record {
        rest = tail.rest;
        distinct = tail.distinct;
        each = tail.each;
        apart = λ x all. tail.apart x (All-tail (λ y. y ≢ suc x) 0 keys all);
        long = let fits = tail.none distinct.0 in omega (arith, fits);
        none = λ all. absurd (All-head (λ k. k ≢ 0) 0 keys all refl);
      }
  lowered o slots (suc k ∷ keys) distinct each =
      let tail = lowered o slots keys distinct.1 (All-tail (λ k. slice_index_or (o ∷ slots) k None ≢ None) (suc k) keys each) in
      record {
        rest = k ∷ tail.rest;
        distinct = (tail.apart k distinct.0, tail.distinct);
        each = All-cons (λ k. slice_index_or slots k None ≢ None) k tail.rest (All-head (λ k. slice_index_or (o ∷ slots) k None ≢ None) (suc k) keys each) tail.each;
        apart = λ x all. All-cons (λ y. y ≢ x) k tail.rest (λ same. All-head (λ y. y ≢ suc x) (suc k) keys all (ap suc same)) (tail.apart x (All-tail (λ y. y ≢ suc x) (suc k) keys all));
        long = omega (arith, tail.long);
        none = λ all. let fits = tail.none (All-tail (λ k. k ≢ 0) (suc k) keys all) in omega (arith, fits);
      }

  -- different keys of slots that have something are no more than there are such slots
  pub distinct-fit : (slots : List (Option X)) (keys : List ℕ) → AreDistinct keys → HasEach slots keys → length keys ≤ count_by is_some slots
  distinct-fit [] [] distinct each = omega arith
  distinct-fit [] (k ∷ keys) distinct each = absurd (All-head (λ k. slice_index_or {A = Option X} [] k None ≢ None) k keys each refl)
  distinct-fit (None ∷ slots) keys distinct each =
      let low = lowered None slots keys distinct each in
      let rest = distinct-fit slots low.rest low.distinct low.each in
      let fits = low.none (All-weaker (λ k. slice_index_or (None ∷ slots) k None ≢ None) (λ k. k ≢ 0) (λ k some same. some (ap (λ j. slice_index_or (None ∷ slots) j None) same)) keys each) in
      omega (arith, fits, rest)
  distinct-fit (Some x ∷ slots) keys distinct each =
      let low = lowered (Some x) slots keys distinct each in
      let rest = distinct-fit slots low.rest low.distinct low.each in
      let more : count_by is_some (Some x ∷ slots) ≡ 1 + count_by is_some slots = sum_by-cons (λ (o : Option X). cond (is_some o) 1 0) (Some x) slots in
      omega (arith, low.long, rest, more)

module _ {K V : Type 0} {P : ℕ} (arena : NodeArena K V P) where
  list-held : (before : Option ℕ) (keys : List ℕ) → IsLinkedAfter arena before keys → HasEach arena.leaf.slots keys
  list-held before [] is_linked = All-nil (λ k. slice_index_or arena.leaf.slots k None ≢ None)
  list-held before (k ∷ keys) ((leaf, at, previous, next), rest) =
      All-cons (λ k. slice_index_or arena.leaf.slots k None ≢ None) k keys (λ none. let wrong : Some leaf ≡ None = sym at ∙ none in absurd (cc)) (list-held (Some k) keys rest)

  -- a linked list is no longer than there are leaves
  pub list-fit : (keys : List ℕ) → IsLinkedList arena keys → length keys ≤ leaf_count arena
  list-fit keys is_list = distinct-fit arena.leaf.slots keys is_list.distinct (list-held None keys is_list.is_linked)

module _ {K V : Type 0} {P : ℕ} (text : K → List ℕ) where
  -- leaves of one text are in one slot
  abbrev OneEach : List (Option (LeafNode K V P)) → Type 0
  OneEach slots =
      (i j : ℕ) (a b : LeafNode K V P) → slice_index_or slots i None ≡ Some a → slice_index_or slots j None ≡ Some b → text (leaf_key a) ≡ text (leaf_key b) → i ≡ j

  counted : (slots : List (Option (LeafNode K V P))) → OneEach slots → length (entries_among text slots) ≡ count_by is_some slots
  counted [] one = refl
  counted (None ∷ slots) one = let rest = counted slots (λ i j a b at_i at_j same. let next = one (suc i) (suc j) a b at_i at_j same in omega (arith, next)) in omega (arith, rest)
  counted (Some leaf ∷ slots) one =
      let rest = counted slots (λ i j a b at_i at_j same. let next = one (suc i) (suc j) a b at_i at_j same in omega (arith, next)) in
      let long = put-long text (entries_among text slots) (leaf_key leaf, leaf_value leaf) (λ inside.
      let from = inside_image (λ e. text e.0) (entries_among text slots) (text (leaf_key leaf)) inside in
      let slot = entry-from text slots (text from.0.0) from.0 (All-contains (λ e. entry_among text slots (text e.0) ≡ Some e) (entries_among text slots) from.0 (among-each text slots) from.1) in
      let wrong = one 0 (suc slot.key) leaf slot.leaf refl slot.at (sym (slot.has ∙ from.2)) in
      omega (arith, wrong)) in
      let more : count_by is_some (Some leaf ∷ slots) ≡ 1 + count_by is_some slots = sum_by-cons (λ (o : Option (LeafNode K V P)). cond (is_some o) 1 0) (Some leaf) slots in
      omega (arith, long, rest, more)

  module _ (arena : NodeArena K V P) where
    pub art-counted : (root : Option (OpaqueNodePtr K V P)) → IsArt text arena root → length (entries_of text arena) ≡ leaf_count arena
    art-counted None nothing = counted arena.leaf.slots (λ i j a b at_i at_j same. let wrong : HeldLeaf a ≡ Nothing = sym (ap (held_leaf {H = OpaqueNodePtr K V P}) at_i) ∙ nothing (opaque_pointer LeafKind i) in absurd (cc))
    art-counted (Some root) (tree, alone) = counted arena.leaf.slots (λ i j a b at_i at_j same.
        let p = opaque_pointer {K = K} {V = V} {P = P} LeafKind i in
        let q = opaque_pointer {K = K} {V = V} {P = P} LeafKind j in
        let there : held arena p ≡ HeldLeaf a = ap held_leaf at_i in
        let here : held arena q ≡ HeldLeaf b = ap held_leaf at_j in
        let in_p = leaf-in text arena tree alone.is_tree.stands p a (alone.no_others p (some-leaf (held arena p) a there)) there in
        let in_q = leaf-in text arena tree alone.is_tree.stands q b (alone.no_others q (some-leaf (held arena q) b here)) here in
        ap opaque_key (one-member (leaves tree) p q (text (leaf_key a)) (texts-apart [] tree alone.is_tree.sound) in_p (subst (λ t. Contains (leaves tree) (q, t)) (sym same) in_q)))

    module _ (root : OpaqueNodePtr K V P) (tree : Tree (OpaqueNodePtr K V P)) (alone : IsAlone text arena root tree) where
      -- the texts of the entries are those of the tree's leaves
      pub entry-texts : texts_of text (entries_of text arena) ≡ texts tree
      entry-texts =
          let list = are-entries text arena in
          same_texts (texts_of text (entries_of text arena)) (texts tree) list.ascending (texts-ascend [] tree alone.is_tree.sound) (λ x inside. text-of-entry text arena root tree alone x (has-entry text arena (entries_of text arena) x list.each inside))
          (λ x inside. list.all x (entry-of-text text arena root tree alone (texts-apart [] tree alone.is_tree.sound) x inside))

      pub leaves-counted : length (leaves tree) ≡ leaf_count arena
      leaves-counted = sym (length-map (leaves tree) (λ leaf. leaf.1)) ∙ ap length (sym entry-texts) ∙ length-map (entries_of text arena) (λ e. text e.0) ∙ art-counted (Some root) (tree, alone)
