-- A tree and the tree of its texts but one: they have as many nodes of each kind, but for one.
use Rattle.art_tree.proofs.Names.{◌≡◌, ◌≢◌, ◌⊎◌, ◌∙◌, ℕ, ◌+◌, ◌≤◌, List, [], ◌∷◌, ◌++◌, length, map, Contains, refl, sym, ap, subst, inl, inr, arith, ◌↔◌, cases_lt, map-append, Contains-append_cases, kind_for, NodeType, Tree, Leaf, Inner, Branches, NoBranch, Branch, branch_roots, leaves, branch_leaves, texts, branch_texts, IsSound, IsWellFormed, Context, Whole, Under, plug, path_to, leaves_before, leaves_after, join, one_if_same, nodes_of, branch_nodes_of, the_one, LeafKind}
use Rattle.art_steps.proofs.InsertLemmas.AddedLeaf.{leaves-filled, leaves-parted}
use Rattle.art_tree.proofs.InsertLemmas.NeededNodes.{nodes-taken}
use Rattle.art_steps.proofs.InsertLemmas.SubtreeLemmas.{with_leaf}
use Rattle.art_steps.proofs.PlaceLemmas.WayPlaces.{some-text}
use Rattle.art_tree.proofs.RemoveLemmas.RemainingTree.{with_upper, dropped-count, dropped-sound, joined-sound, leaves-joined, one-leaves, one-left, text-gone}
use Rattle.art_steps.proofs.SharedLemmas.BranchLemmas.{leaves-join, one_branch, join_assoc}
use Rattle.art_steps.proofs.SharedLemmas.DictionaryLemmas.{AreApart, leaf-with}
use Rattle.art_steps.proofs.SharedLemmas.ExchangedSubtree.{count-same, sound-part, sound-whole}
use Rattle.art_tree.proofs.SharedLemmas.NodeBounds.{one-at-most, one-or-leaf}
use Rattle.art_tree.proofs.SharedLemmas.NodeCounts.{nodes-join}
use Rattle.art_steps.proofs.SharedLemmas.TextLists.{text-or-new, text-stays}

abbrev texts_of : {H : Type 0} → List (H × List ℕ) → List (List ℕ)
texts_of all = map (λ leaf. leaf.1) all

-- the place of a leaf with this text
record HasLeaf {H : Type 0} (tree : Tree H) (x : List ℕ) : Type 0 where
  pub context : Context H
  pub pointer : H
  pub whole : plug context (Leaf pointer x) ≡ tree

module _ {H : Type 0} (x : List ℕ) where
  mutual
    leaf-below : (context : Context H) (part : Tree H) → Contains (texts part) x → HasLeaf (plug context part) x
    leaf-below context (Leaf pointer text) inside = record { context = context; pointer = pointer; whole = ap (λ t. plug context (Leaf pointer t)) (sym (the_one text x inside)) }
    leaf-below context (Inner pointer prefix branches) inside = leaf-among context pointer prefix NoBranch branches inside

    leaf-among : (context : Context H) (pointer : H) (prefix : List ℕ) (before branches : Branches H) → Contains (branch_texts branches) x → HasLeaf (plug context (Inner pointer prefix (join before branches))) x
    leaf-among context pointer prefix before NoBranch inside = absurd (omega (arith, inside.1))
    leaf-among context pointer prefix before (Branch byte tree others) inside = elim (Contains-append_cases (texts tree) (branch_texts others) x (subst (λ all. Contains all x) (map-append (λ leaf. leaf.1) (leaves tree) (branch_leaves others)) inside)) [
      | inl here ↦ leaf-below (Under context pointer prefix before byte others) tree here
      | inr later ↦
          let leaf = leaf-among context pointer prefix (join before (one_branch byte tree)) others later in
          record {
            context = leaf.context;
            pointer = leaf.pointer;
            whole = leaf.whole ∙ ap (λ all. plug context (Inner pointer prefix all)) (join_assoc before (one_branch byte tree) others);
          }
    ]

-- a tree without a leaf
record OneLess {H : Type 0} (tree : Tree H) (x : List ℕ) : Type 0 where
  pub rest : Tree H
  pub sound : IsWellFormed rest
  pub same : (y : List ℕ) → Contains (texts tree) y → Contains (texts rest) y ⊎ (y ≡ x)
  pub others : (y : List ℕ) → Contains (texts rest) y → Contains (texts tree) y × (y ≢ x)
  pub no_more : (kind : NodeType) → nodes_of kind tree ≤ nodes_of kind rest + 1
  pub no_less : (kind : NodeType) → nodes_of kind rest ≤ nodes_of kind tree + 1

-- where a subtree has at most one node of the kind more than the one that it replaces, so has the whole tree
around-by-one : {H : Type 0} (kind : NodeType) (context : Context H) (a b : Tree H) → nodes_of kind a ≤ nodes_of kind b + 1 → nodes_of kind (plug context a) ≤ nodes_of kind (plug context b) + 1
around-by-one kind Whole a b by = by
around-by-one kind (Under above pointer prefix before byte after) a b by =
    let same = ap (λ n. one_if_same kind (kind_for n)) (count-same before byte a b after) in
    let one = nodes-join kind before (Branch byte a after) in
    let other = nodes-join kind before (Branch byte b after) in
    around-by-one kind above (Inner pointer prefix (join before (Branch byte a after))) (Inner pointer prefix (join before (Branch byte b after))) (omega (arith, by, same, one, other))

-- a tree with more before its prefix has the same nodes
nodes-upper : {H : Type 0} (kind : NodeType) (prefix : List ℕ) (byte : ℕ) (tree : Tree H) → nodes_of kind (with_upper prefix byte tree) ≡ nodes_of kind tree
nodes-upper kind prefix byte (Leaf pointer text) = refl
nodes-upper kind prefix byte (Inner pointer lower branches) = refl

module _ {H : Type 0} (upper : Context H) (parent : H) (prefix : List ℕ) (before : Branches H) (byte : ℕ) (leaf : H) (x : List ℕ) (after : Branches H) (sound : IsWellFormed (plug upper (with_leaf parent prefix before byte leaf x after)))
    (apart : AreApart (texts (plug upper (with_leaf parent prefix before byte leaf x after)))) where
  abbrev part : Tree H
  part = with_leaf parent prefix before byte leaf x after

  abbrev left : List (H × List ℕ)
  left = leaves_before upper ++ branch_leaves before

  abbrev right : List (H × List ℕ)
  right = branch_leaves after ++ leaves_after upper

  abbrev count : ℕ
  count = length (branch_roots (join before after))

  part-sound : IsSound (path_to upper) part
  part-sound = sound-part upper part sound

  -- another part in its place that has the other leaves
  less-with : (now : Tree H) → IsSound (path_to upper) now → leaves now ≡ branch_leaves before ++ branch_leaves after → ((kind : NodeType) → nodes_of kind part ≤ nodes_of kind now + 1) → ((kind : NodeType) → nodes_of kind now ≤ nodes_of kind part + 1) → OneLess (plug upper part) x
  less-with now now_sound same_leaves more less =
      let old_texts : texts (plug upper part) ≡ texts_of (left ++ (leaf, x) ∷ right) = ap texts_of (leaves-filled upper prefix parent before byte leaf x after) in
      let new_texts : texts (plug upper now) ≡ texts_of (left ++ right) = ap texts_of (leaves-parted upper now before after same_leaves) in
      record {
        rest = plug upper now;
        sound = sound-whole upper part now sound now_sound;
        same = λ y inside. elim (text-or-new left right leaf x y (subst (λ all. Contains all y) old_texts inside)) [
          | inl there ↦ inl (subst (λ all. Contains all y) (sym new_texts) there)
          | inr is ↦ inr is
        ];
        others = λ y inside.
            let there = subst (λ all. Contains all y) new_texts inside in (
              subst (λ all. Contains all y) (sym old_texts) (text-stays left right leaf x y there),
              λ is. let found = leaf-with (left ++ right) x (subst (Contains (texts_of (left ++ right))) is there) in text-gone left right leaf x (subst AreApart old_texts apart) found.0 found.1,
            );
        no_more = λ kind. around-by-one kind upper part now (more kind);
        no_less = λ kind. around-by-one kind upper now part (less kind);
      }

  -- the parent keeps two branches or more
  less-branch : 2 ≤ count → OneLess (plug upper part) x
  less-branch enough =
      less-with (Inner parent prefix (join before after)) (dropped-sound before byte (Leaf leaf x) after (path_to upper) prefix parent part-sound parent enough) (leaves-join before after)
      (λ kind. let taken = nodes-taken kind parent prefix before byte leaf x after in let one = one-or-leaf kind (count + 1) in omega (arith, taken, one))
      (λ kind. let taken = nodes-taken kind parent prefix before byte leaf x after in let one = one-at-most kind (kind_for count) in omega (arith, taken, one))

  -- or its other branch takes its place
  less-parent : count ≡ 1 → OneLess (plug upper part) x
  less-parent one =
      let kept = one-left before byte (Leaf leaf x) after part-sound.1 one in
      less-with (with_upper prefix kept.other kept.only) (joined-sound before byte (Leaf leaf x) after (path_to upper) prefix parent part-sound kept.other kept.only kept.is)
      (leaves-joined prefix kept.other kept.only ∙ sym (one-leaves before after kept.other kept.only kept.is))
      (λ kind.
      let taken = nodes-taken kind parent prefix before byte leaf x after in
      let same = nodes-upper kind prefix kept.other kept.only in
      let below : branch_nodes_of kind (join before after) ≡ nodes_of kind kept.only + 0 = ap (branch_nodes_of kind) kept.is in
      let own = one-or-leaf kind (count + 1) in
      omega (arith, taken, same, below, own))
      (λ kind.
      let taken = nodes-taken kind parent prefix before byte leaf x after in
      let same = nodes-upper kind prefix kept.other kept.only in
      let below : branch_nodes_of kind (join before after) ≡ nodes_of kind kept.only + 0 = ap (branch_nodes_of kind) kept.is in
      omega (arith, taken, same, below))

  less-there : OneLess (plug upper part) x
  less-there = elim (cases_lt 1 count) [
    | inl many ↦ less-branch (omega (arith, many))
    | inr few ↦ let dropped = dropped-count before byte (Leaf leaf x) after in less-parent (omega (arith, few, part-sound.0, dropped))
  ]

-- a tree with this text is one leaf, or has a leaf less without it
one-less : {H : Type 0} (tree : Tree H) (x : List ℕ) → IsWellFormed tree → AreApart (texts tree) → Contains (texts tree) x → ((pointer : H) × (tree ≡ Leaf pointer x)) ⊎ OneLess tree x
one-less {H} tree x sound apart inside = let leaf = leaf-below x Whole tree inside in by_context leaf.context leaf.pointer leaf.whole
  where
    by_context : (context : Context H) (pointer : H) → plug context (Leaf pointer x) ≡ tree → ((pointer : H) × (tree ≡ Leaf pointer x)) ⊎ OneLess tree x
    by_context Whole pointer whole = inl (pointer, sym whole)
    by_context (Under upper parent prefix before byte after) pointer whole =
        inr (subst (λ t. OneLess t x) whole (less-there upper parent prefix before byte pointer x after (subst IsWellFormed (sym whole) sound) (subst (λ t. AreApart (texts t)) (sym whole) apart)))

-- trees with the same texts have the same nodes, and texts of a tree are apart
abbrev pub SameNodesLaw : Type 0 → Type 0
SameNodesLaw H = (tree other : Tree H) (kind : NodeType) → IsWellFormed tree → IsWellFormed other → ((y : List ℕ) → Contains (texts tree) y ↔ Contains (texts other) y) → nodes_of kind tree ≡ nodes_of kind other

abbrev pub ApartLaw : Type 0 → Type 0
ApartLaw H = (path : List ℕ) (tree : Tree H) → IsSound path tree → AreApart (texts tree)

module _ {H : Type 0} (same_nodes : SameNodesLaw H) (apart : ApartLaw H) where
  -- a tree with one text more has at most one node more of a kind, and at most one less
  pub by-one : (tree rest : Tree H) (x : List ℕ) → IsWellFormed tree → IsWellFormed rest → Contains (texts tree) x → ((y : List ℕ) → Contains (texts tree) y → Contains (texts rest) y ⊎ (y ≡ x)) → ((y : List ℕ) → Contains (texts rest) y → Contains (texts tree) y × (y ≢ x)) → (kind : NodeType)
      → (nodes_of kind tree ≤ nodes_of kind rest + 1) × (nodes_of kind rest ≤ nodes_of kind tree + 1)
  by-one tree rest x sound rest_sound has same others kind = elim (one-less tree x sound (apart [] tree sound) has) [
    | inl (pointer, is) ↦
        let some = some-text [] rest rest_sound in
        let there = others some.text some.inside in
        absurd (there.1 (sym (the_one x some.text (subst (λ t. Contains (texts t) some.text) is there.0))))
    | inr less ↦
        let equal = same_nodes less.rest rest kind less.sound rest_sound (λ y. (
          λ inside. let there = less.others y inside in elim (same y there.0) [ inl here ↦ here | inr is ↦ absurd (there.1 is) ],
          λ inside. let there = others y inside in elim (less.same y there.0) [ inl here ↦ here | inr is ↦ absurd (there.1 is) ],
        )) in
        let more = less.no_more kind in
        let fewer = less.no_less kind in
        (omega (arith, more, equal), omega (arith, fewer, equal))
  ]

  -- a tree whose texts are all this one is a leaf
  pub one-text : (tree : Tree H) (x : List ℕ) → IsWellFormed tree → ((y : List ℕ) → Contains (texts tree) y → y ≡ x) → (kind : NodeType) → nodes_of kind tree ≤ 1
  one-text tree x sound all kind =
      let some = some-text [] tree sound in
      elim (one-less tree x sound (apart [] tree sound) (subst (Contains (texts tree)) (all some.text some.inside) some.inside)) [
        | inl (pointer, is) ↦ subst (λ t. nodes_of kind t ≤ 1) (sym is) (one-at-most kind LeafKind)
        | inr less ↦
            let other = some-text [] less.rest less.sound in
            let there = less.others other.text other.inside in
            absurd (there.1 (all other.text there.0))
      ]
