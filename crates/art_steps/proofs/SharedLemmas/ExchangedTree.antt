-- A tree that is alone in its arena, after a part of it was exchanged, and its dictionary.
use Rattle.art_steps.proofs.Names.{◌≡◌, ◌≢◌, ◌⊎◌, ◌∙◌, ℕ, ◌<◌, ◌^◌, List, [], ◌∷◌, ◌++◌, length, map, All, Contains, Option, Some, None, refl, sym, ap, subst, inl, inr, map-append, All-append, Contains-append_left, Contains-append_right, Contains-append_cases, opaque_key, OpaqueNodePtr, NodeArena, Nothing, held, SameNodes, AreDistinct, IsLinkedList, Tree, Inner, Branches, Branch, leaves, texts, places, branch_places, root_of, IsSound, IsAlone, IsArt, Context, Whole, Under, plug, path_to, leaves_before, leaves_after, KeepsAt, IsExchanged, join, entry_at, SameEntries, HasSmallestKinds, leaf_pointers, by_option, the_one, all_left, all_right}
use Rattle.art_steps.proofs.SharedLemmas.DictionaryLemmas.{AreApart, leaf-held-in, leaf-of-entry, held-entry}
use Rattle.art_steps.proofs.SharedLemmas.ExchangedSubtree.{places-node, in-part, kept-tree, leaves-plug, smallest_kinds-whole, sound-whole, stands-whole}
use Rattle.art_links.proofs.HeldNodes.{cases_held}
use Rattle.art_steps.proofs.SharedLemmas.KeptLists.{IsLinkedList-kept}

module _ {H : Type 0} where
  -- the whole has the root that it had, where its part has
  root-plug : (context : Context H) (part now : Tree H) → root_of now ≡ root_of part → root_of (plug context now) ≡ root_of (plug context part)
  root-plug Whole part now same = same
  root-plug (Under above pointer prefix before byte after) part now same = root-plug above (Inner pointer prefix (join before (Branch byte part after))) (Inner pointer prefix (join before (Branch byte now after))) refl

  -- and below a node in any case
  pub root-under : (above : Context H) (pointer : H) (prefix : List ℕ) (before : Branches H) (byte : ℕ) (after : Branches H) (part now : Tree H) → root_of (plug (Under above pointer prefix before byte after) now) ≡ root_of (plug (Under above pointer prefix before byte after) part)
  root-under above pointer prefix before byte after part now = root-plug above (Inner pointer prefix (join before (Branch byte part after))) (Inner pointer prefix (join before (Branch byte now after))) refl

  -- a place of the whole that is not in the part is also in the whole with another part
  pub other-part : (context : Context H) (part now : Tree H) (q : H) → Contains (places (plug context part)) q → Contains (places part) q ⊎ Contains (places (plug context now)) q
  other-part Whole part now q inside = inl inside
  other-part (Under above pointer prefix before byte after) part now q inside =
      let old = Inner pointer prefix (join before (Branch byte part after)) in
      let new = Inner pointer prefix (join before (Branch byte now after)) in
      let up : Contains (pointer ∷ (branch_places before ++ (places now ++ branch_places after))) q → Contains (places (plug above new)) q =
      λ there. in-part above new q (subst (λ all. Contains all q) (sym (places-node pointer prefix before byte now after)) there) in
      elim (other-part above old new q inside) [
        | inr there ↦ inr there
        | inl node ↦ elim (Contains-append_cases (pointer ∷ []) (branch_places before ++ (places part ++ branch_places after)) q (subst (λ all. Contains all q) (places-node pointer prefix before byte part after) node)) [
          | inl here ↦ inr (up (Contains-append_left (pointer ∷ []) (branch_places before ++ (places now ++ branch_places after)) q here))
          | inr below ↦ elim (Contains-append_cases (branch_places before) (places part ++ branch_places after) q below) [
            | inl left ↦ inr (up (Contains-append_right (pointer ∷ []) (branch_places before ++ (places now ++ branch_places after)) q (Contains-append_left (branch_places before) (places now ++ branch_places after) q left)))
            | inr from ↦ elim (Contains-append_cases (places part) (branch_places after) q from) [
              | inl in_part ↦ inl in_part
              | inr right ↦ inr (up (Contains-append_right (pointer ∷ branch_places before) (places now ++ branch_places after) q (Contains-append_right (places now) (branch_places after) q right)))
            ]
          ]
        ]
      ]

  -- the texts of the whole are those of the part between the others
  texts-plug : (context : Context H) (part : Tree H) → texts (plug context part) ≡ map (λ l. l.1) (leaves_before context) ++ (texts part ++ map (λ l. l.1) (leaves_after context))
  texts-plug context part =
      ap (map (λ l. l.1)) (leaves-plug context part) ∙ map-append (λ l. l.1) (leaves_before context) (leaves part ++ leaves_after context)
      ∙ ap (λ rest. map (λ l. l.1) (leaves_before context) ++ rest) (map-append (λ l. l.1) (leaves part) (leaves_after context))

  -- what is true of each text of the whole is so of each of the part
  pub texts-part : (P : List ℕ → Type 0) (context : Context H) (part : Tree H) → All P (texts (plug context part)) → All P (texts part)
  texts-part P context part each =
      let after = map (λ (l : H × List ℕ). l.1) (leaves_after context) in
      all_left P (texts part) after (all_right P (map (λ l. l.1) (leaves_before context)) (texts part ++ after) (subst (All P) (texts-plug context part) each))

  -- and stays so where it is true of each of the new part
  pub texts-grown : (P : List ℕ → Type 0) (context : Context H) (part now : Tree H) → All P (texts (plug context part)) → All P (texts now) → All P (texts (plug context now))
  texts-grown P context part now each new =
      let before = map (λ (l : H × List ℕ). l.1) (leaves_before context) in
      let after = map (λ (l : H × List ℕ). l.1) (leaves_after context) in
      let all = subst (All P) (texts-plug context part) each in
      subst (All P) (sym (texts-plug context now))
      (All-append P before (texts now ++ after) (all_left P before (texts part ++ after) all) (All-append P (texts now) after new (all_right P (texts part) after (all_right P before (texts part ++ after) all))))

  -- where the leaves are those that were and one more, the others are the same
  module _ (left right : List (H × List ℕ)) (added : H) (text : List ℕ) (tree now : Tree H) (old_leaves : leaves tree ≡ left ++ right) (new_leaves : leaves now ≡ left ++ (added, text) ∷ right) where
    pub leaf-stays : (p : H) (x : List ℕ) → Contains (leaves tree) (p, x) → Contains (leaves now) (p, x)
    leaf-stays p x inside = elim (Contains-append_cases left right (p, x) (subst (λ all. Contains all (p, x)) old_leaves inside)) [
      | inl earlier ↦ subst (λ all. Contains all (p, x)) (sym new_leaves) (Contains-append_left left ((added, text) ∷ right) (p, x) earlier)
      | inr later ↦ subst (λ all. Contains all (p, x)) (sym new_leaves) (Contains-append_right left ((added, text) ∷ right) (p, x) (Contains-append_right ((added, text) ∷ []) right (p, x) later))
    ]

    pub leaf-was : (p : H) (x : List ℕ) → Contains (leaves now) (p, x) → x ≢ text → Contains (leaves tree) (p, x)
    leaf-was p x inside differs = elim (Contains-append_cases left ((added, text) ∷ right) (p, x) (subst (λ all. Contains all (p, x)) new_leaves inside)) [
      | inl earlier ↦ subst (λ all. Contains all (p, x)) (sym old_leaves) (Contains-append_left left right (p, x) earlier)
      | inr from ↦ elim (Contains-append_cases ((added, text) ∷ []) right (p, x) from) [
        | inl here ↦ absurd (differs (sym (ap (λ leaf. leaf.1) (the_one (added, text) (p, x) here))))
        | inr later ↦ subst (λ all. Contains all (p, x)) (sym old_leaves) (Contains-append_right left right (p, x) later)
      ]
    ]

module _ {K V : Type 0} {P : ℕ} (text : K → List ℕ) (old new : NodeArena K V P) where
  -- a tree whose part is exchanged is alone, where all that is new stands in the new part, and what was in the old part and is not in the new one is gone
  pub alone-grown : (root : OpaqueNodePtr K V P) (context : Context (OpaqueNodePtr K V P)) (part now : Tree (OpaqueNodePtr K V P)) → IsAlone text old root (plug context part) → AreDistinct (places (plug context part)) → IsExchanged old new text context part now
      → IsSound (path_to context) now → HasSmallestKinds now → All (λ x. length x < 2 ^ 32) (texts now) → IsLinkedList new (map opaque_key (leaf_pointers (plug context now)))
      → ((p : OpaqueNodePtr K V P) → held new p ≢ Nothing → held old p ≡ Nothing → Contains (places now) p)
      → ((p : OpaqueNodePtr K V P) → Contains (places part) p → Contains (places now) p ⊎ (held new p ≡ Nothing))
      → IsAlone text new (root_of (plug context now)) (plug context now)
  alone-grown root context part now alone distinct exchanged sound smallest_kinds short is_linked fresh gone = record {
    is_tree = record {
      at_root = refl;
      stands = stands-whole text old new [] context part now alone.is_tree.sound distinct exchanged;
      sound = sound-whole context part now alone.is_tree.sound sound;
    };
    smallest_kinds = smallest_kinds-whole context part now alone.smallest_kinds smallest_kinds;
    short = texts-grown (λ x. length x < 2 ^ 32) context part now alone.short short;
    is_linked = is_linked;
    no_others = λ p is_held. elim (cases_held (held old p)) [
      | inl free ↦ in-part context now p (fresh p is_held free)
      | inr was ↦ elim (other-part context part now p (alone.no_others p was)) [
        | inr around ↦ around
        | inl inside ↦ elim (gone p inside) [ inl stays ↦ in-part context now p stays | inr free ↦ absurd (is_held free) ]
      ]
    ];
  }

  -- where every pointer holds what it held, the tree is alone as it was
  module _ (same : (p : OpaqueNodePtr K V P) → held new p ≡ held old p) where
    keeps-same : (p : OpaqueNodePtr K V P) → KeepsAt old new p
    keeps-same p = record { inner = λ node is. same p ∙ is; leaf = λ leaf is. (leaf, same p ∙ is, refl, refl) }

    pub alone-same : (root : OpaqueNodePtr K V P) (tree : Tree (OpaqueNodePtr K V P)) → IsAlone text old root tree → IsAlone text new root tree
    alone-same root tree alone = record {
      is_tree = record { at_root = alone.is_tree.at_root; stands = kept-tree text old new tree alone.is_tree.stands (λ q inside. keeps-same q); sound = alone.is_tree.sound };
      smallest_kinds = alone.smallest_kinds;
      short = alone.short;
      is_linked = IsLinkedList-kept old new (λ p was. same p) (map opaque_key (leaf_pointers tree)) alone.is_linked;
      no_others = λ p is_held. alone.no_others p (λ none. is_held (same p ∙ none));
    }

    pub art-same : (root : Option (OpaqueNodePtr K V P)) → IsArt text old root → IsArt text new root
    art-same None nothing = λ p. same p ∙ nothing p
    art-same (Some root) (tree, alone) = (tree, alone-same root tree alone)

  module _ (root new_root : OpaqueNodePtr K V P) (tree now : Tree (OpaqueNodePtr K V P)) (alone : IsAlone text old root tree) (new_alone : IsAlone text new new_root now) (apart : AreApart (texts tree)) (new_apart : AreApart (texts now)) where
    -- a leaf of both trees that keeps its key and its value has one entry in both
    kept-entry : (p : OpaqueNodePtr K V P) (x : List ℕ) → Contains (leaves tree) (p, x) → KeepsAt old new p → entry_at text new x ≡ entry_at text old x
    kept-entry p x inside keeps =
        let was = leaf-held-in text old tree alone.is_tree.stands p x inside in
        let is = keeps.leaf was.0 was.1 in
        let was_entry = held-entry text old root tree alone apart p was.0 was.1 in
        let is_entry = held-entry text new new_root now new_alone new_apart p is.0 is.1 in
        ap (entry_at text new) (sym was.2 ∙ ap text (sym is.2)) ∙ is_entry ∙ ap Some (λ i. (is.2 i, is.3 i)) ∙ sym was_entry ∙ ap (entry_at text old) was.2

    -- so a text has the entry that it had, where its leaves are the same and are kept
    same-entry : (x : List ℕ) → ((p : OpaqueNodePtr K V P) → Contains (leaves now) (p, x) → Contains (leaves tree) (p, x) × KeepsAt old new p) → ((p : OpaqueNodePtr K V P) → Contains (leaves tree) (p, x) → Contains (leaves now) (p, x) × KeepsAt old new p)
        → entry_at text new x ≡ entry_at text old x
    same-entry x back forth =
        by_option (entry_at text new x) (entry_at text new x ≡ entry_at text old x)
        (λ none. none ∙ by_option (entry_at text old x) (None ≡ entry_at text old x) (λ was. sym was) (λ entry was.
        let found = leaf-of-entry text old root tree alone x entry was in
        let kept = forth found.pointer found.inside in
        sym none ∙ kept-entry found.pointer x found.inside kept.1))
        (λ entry is.
        let found = leaf-of-entry text new new_root now new_alone x entry is in
        let kept = back found.pointer found.inside in
        kept-entry found.pointer x kept.0 kept.1)

    pub entries-same : ((p : OpaqueNodePtr K V P) (x : List ℕ) → Contains (leaves now) (p, x) → Contains (leaves tree) (p, x) × KeepsAt old new p) → ((p : OpaqueNodePtr K V P) (x : List ℕ) → Contains (leaves tree) (p, x) → Contains (leaves now) (p, x) × KeepsAt old new p)
        → (x : List ℕ) → entry_at text new x ≡ entry_at text old x
    entries-same back forth x = same-entry x (λ p inside. back p x inside) (λ p inside. forth p x inside)

    pub entries-but : (but : List ℕ) → ((p : OpaqueNodePtr K V P) (x : List ℕ) → Contains (leaves now) (p, x) → x ≢ but → Contains (leaves tree) (p, x) × KeepsAt old new p)
        → ((p : OpaqueNodePtr K V P) (x : List ℕ) → Contains (leaves tree) (p, x) → x ≢ but → Contains (leaves now) (p, x) × KeepsAt old new p) → (x : List ℕ) → x ≢ but → entry_at text new x ≡ entry_at text old x
    entries-but but back forth x differs = same-entry x (λ p inside. back p x inside differs) (λ p inside. forth p x inside differs)

  -- where every pointer holds what it held, every text has the entry that it had
  pub entries-stay : SameNodes old new → (root : OpaqueNodePtr K V P) (tree : Tree (OpaqueNodePtr K V P)) → IsAlone text old root tree → AreApart (texts tree) → SameEntries text old new
  entries-stay same root tree alone apart = entries-same root root tree tree alone (alone-same same root tree alone) apart apart stays stays
    where
      stays : (p : OpaqueNodePtr K V P) (x : List ℕ) → Contains (leaves tree) (p, x) → Contains (leaves tree) (p, x) × KeepsAt old new p
      stays p x inside = (inside, keeps-same same p)
