-- Insertion: a tree with one leaf more, after the steps of an insert.
use Rattle.art_steps.proofs.Names.{◌≡◌, ◌≢◌, ◌⊎◌, ◌∙◌, ℕ, ◌<◌, ◌^◌, List, [], ◌∷◌, ◌++◌, length, map, All, Contains, Some, refl, sym, ap, subst, inl, inr, arith, append_assoc, map-append, All-append, All-cons, IsPrefixOf, opaque_key, opaque_pointer, OpaqueNodePtr, LeafNode, NodeArena, HeldInner, HeldLeaf, Nothing, held, held_leaf, SameNodes, AreDistinct, IsLinkedList, leaf_at, NodeStands, StandsIn, AllStandIn, Tree, Leaf, Branches, Branch, leaves, branch_leaves, texts, branch_texts, places, root_of, IsSound, IsWellFormed, IsAlone, IsArt, Context, plug, path_to, leaves_before, leaves_after, parent, KeepsAt, IsExchanged, join, entry_at, HoldsEntry, StaysAt, HasChildUnder, IsChildOrRoot, IsEntered, HasSmallestKinds, leaf_pointers, above, all_left, all_right, LeafKind, InnerNode}
use Rattle.art_steps.proofs.SharedLemmas.ChangedTree.{IsAbove, IsPutAt, has-child_under-at, held-on, is-put-at, keeps-on, leaf-no-parent, parent-above, place-held, root-place, was-leaf}
use Rattle.art_steps.proofs.SharedLemmas.DictionaryLemmas.{AreApart, held-entry, leaf-held-in}
use Rattle.art_steps.proofs.SharedLemmas.ExchangedSubtree.{in-part, leaves-plug}
use Rattle.art_steps.proofs.SharedLemmas.ExchangedTree.{alone-grown, entries-but, entries-stay, leaf-stays, leaf-was, texts-part}
use Rattle.art_steps.proofs.InsertLemmas.NodeLemmas.{some-inner, some-leaf}
use Rattle.art_steps.proofs.InsertLemmas.SubtreeLemmas.{in-taken, leaves-taken, taken-sound, HasPlace, with_leaf}
use Rattle.art_steps.proofs.SharedLemmas.BranchLemmas.{stand-join}
use Rattle.art_links.proofs.HeldNodes.{cases_pointer, leaf-of}
use Rattle.art_steps.proofs.SharedLemmas.KeptLists.{list-on}

-- the leaves of the whole, where those of the part are on both sides of a gap, and with a leaf in the gap
pub leaves-parted : {H : Type 0} (context : Context H) (part : Tree H) (before after : Branches H) → leaves part ≡ branch_leaves before ++ branch_leaves after → leaves (plug context part) ≡ (leaves_before context ++ branch_leaves before) ++ (branch_leaves after ++ leaves_after context)
leaves-parted context part before after same =
    leaves-plug context part
    ∙ ap (λ all. leaves_before context ++ (all ++ leaves_after context)) same
    ∙ ap (λ all. leaves_before context ++ all) (append_assoc (branch_leaves before) (branch_leaves after) (leaves_after context))
    ∙ sym (append_assoc (leaves_before context) (branch_leaves before) (branch_leaves after ++ leaves_after context))

pub leaves-filled : {H : Type 0} (context : Context H) (prefix : List ℕ) (top : H) (before : Branches H) (byte : ℕ) (leaf : H) (x : List ℕ) (after : Branches H) → leaves (plug context (with_leaf top prefix before byte leaf x after)) ≡ (leaves_before context ++ branch_leaves before) ++ (leaf, x) ∷ (branch_leaves after ++ leaves_after context)
leaves-filled context prefix top before byte leaf x after =
    leaves-plug context (with_leaf top prefix before byte leaf x after)
    ∙ ap (λ all. leaves_before context ++ (all ++ leaves_after context)) (leaves-taken prefix top before byte leaf x after)
    ∙ ap (λ all. leaves_before context ++ all) (append_assoc (branch_leaves before) ((leaf, x) ∷ branch_leaves after) (leaves_after context))
    ∙ sym (append_assoc (leaves_before context) (branch_leaves before) ((leaf, x) ∷ (branch_leaves after ++ leaves_after context)))

-- what is true of the new text and of each text around the gap is true of each there with the leaf
texts-filled : {H : Type 0} (P : List ℕ → Type 0) (part : Tree H) (prefix : List ℕ) (top : H) (before : Branches H) (byte : ℕ) (leaf : H) (x : List ℕ) (after : Branches H) → leaves part ≡ branch_leaves before ++ branch_leaves after → All P (texts part) → P x → All P (texts (with_leaf top prefix before byte leaf x after))
texts-filled P part prefix top before byte leaf x after same each new =
    let left = branch_texts before in
    let right = branch_texts after in
    let parted = subst (All P) (ap (map (λ l. l.1)) same ∙ map-append (λ l. l.1) (branch_leaves before) (branch_leaves after)) each in
    let filled = ap (map (λ l. l.1)) (leaves-taken prefix top before byte leaf x after) ∙ map-append (λ l. l.1) (branch_leaves before) ((leaf, x) ∷ branch_leaves after) in
    subst (All P) (sym filled) (All-append P left (x ∷ right) (all_left P left right parted) (All-cons P x right new (all_right P left right parted)))

-- the steps of an insert: from the first arena to the next a leaf is linked, from there to the
-- third the node at the place is changed, and then a node is put there
module _ {K V : Type 0} {P : ℕ} (text : K → List ℕ) (old linked new : NodeArena K V P) (context : Context (OpaqueNodePtr K V P)) (part : Tree (OpaqueNodePtr K V P)) (root leaf top : OpaqueNodePtr K V P) (key : K) (value : V) where
  pub record AreSteps : Type 0 where
    pub stood : StandsIn text old (plug context part)
    pub sound : IsWellFormed (plug context part)
    pub was_root : root_of (plug context part) ≡ root
    pub distinct : AreDistinct (places (plug context part))
    pub free : held old leaf ≡ Nothing
    pub entry : HoldsEntry linked leaf key value
    pub stays : (p : OpaqueNodePtr K V P) → p ≢ leaf → StaysAt old linked p
    pub top_was : ((top ≡ root_of part) × ((node : InnerNode (OpaqueNodePtr K V P)) × (held old top ≡ HeldInner node))) ⊎ (held linked top ≡ Nothing)
    pub same : (p : OpaqueNodePtr K V P) → p ≢ top → (p ≡ root_of part → (l : LeafNode K V P) × (held linked p ≡ HeldLeaf l)) → held new p ≡ held linked p

  module _ (steps : AreSteps) where
    not-leaf : (p : OpaqueNodePtr K V P) → held old p ≢ Nothing → p ≢ leaf
    not-leaf p was same = was (ap (held old) same ∙ steps.free)

    not-top : (p : OpaqueNodePtr K V P) → held old p ≢ Nothing → p ≢ root_of part → p ≢ top
    not-top p was differ same = elim steps.top_was [ inl at ↦ differ (same ∙ at.0) | inr free ↦ held-on old linked p (steps.stays p (not-leaf p was)) was (ap (held linked) same ∙ free) ]

    part-root : held old (root_of part) ≢ Nothing
    part-root = place-held text old (plug context part) steps.stood (root_of part) (in-part context part (root_of part) (root-place part))

    above_it : (p : OpaqueNodePtr K V P) → parent context ≡ Some p → IsAbove text old part p
    above_it = parent-above text old context part steps.stood steps.distinct

    not-parent : (p : OpaqueNodePtr K V P) → Contains (places part) p → parent context ≢ Some p
    not-parent p inside is = (above_it p is).outside inside

    parent-held : (p : OpaqueNodePtr K V P) → parent context ≡ Some p → held old p ≢ Nothing
    parent-held p is = some-inner (held old p) (above_it p is).node (above_it p is).is

    parent-kept : (p : OpaqueNodePtr K V P) → parent context ≡ Some p → held new p ≡ held old p
    parent-kept p is =
        let at = above_it p is in
        let was = parent-held p is in
        let other : p ≢ root_of part = λ same. at.outside (subst (Contains (places part)) (sym same) (root-place part)) in
        steps.same p (not-top p was other) (λ same. absurd (other same)) ∙ (steps.stays p (not-leaf p was)).keeps.inner at.node at.is ∙ sym at.is

    pub has-child_under : HasChildUnder new (above context) (root_of part)
    has-child_under = has-child_under-at text old new context part steps.stood steps.sound parent-kept

    module _ (last : NodeArena K V P) (root_now : OpaqueNodePtr K V P) (child_or_root : IsChildOrRoot new last (above context) top root root_now) where
      is_put : IsPutAt old new last context top root_now part
      is_put = is-put-at text old new last context part top root root_now steps.stood steps.was_root parent-kept child_or_root

      -- what is held outside of the place, or is a leaf, is kept to the end
      last-same : (p : OpaqueNodePtr K V P) → p ≢ top → (p ≡ root_of part → (l : LeafNode K V P) × (held linked p ≡ HeldLeaf l)) → parent context ≢ Some p → held last p ≡ held linked p
      last-same p other leaf_there away = is_put.others p away ∙ steps.same p other leaf_there

      -- what is in the old part is as the change of the node left it
      pub last-others : (p : OpaqueNodePtr K V P) → Contains (places part) p → held last p ≡ held new p
      last-others p inside = is_put.others p (not-parent p inside)

      pub others-kept : (p : OpaqueNodePtr K V P) → held old p ≢ Nothing → p ≢ root_of part → parent context ≢ Some p → KeepsAt old last p
      others-kept p was other away = keeps-on old linked last p (steps.stays p (not-leaf p was)) (last-same p (not-top p was other) (λ same. absurd (other same)) away)

      pub below-kept : (p : OpaqueNodePtr K V P) → Contains (places part) p → p ≢ root_of part → KeepsAt old last p
      below-kept p inside other = others-kept p (place-held text old (plug context part) steps.stood p (in-part context part p inside)) other (not-parent p inside)

      leaf-not-top : (p : OpaqueNodePtr K V P) (l : LeafNode K V P) → held old p ≡ HeldLeaf l → p ≢ top
      leaf-not-top p l is same = elim steps.top_was [
        | inl (at, (node, inner)) ↦ (let wrong : HeldLeaf l ≡ HeldInner node = sym is ∙ ap (held old) same ∙ inner in absurd (cc))
        | inr free ↦ held-on old linked p (steps.stays p (not-leaf p (some-leaf (held old p) l is))) (some-leaf (held old p) l is) (ap (held linked) same ∙ free)
      ]

      leaf-last-same : (p : OpaqueNodePtr K V P) (l : LeafNode K V P) → held old p ≡ HeldLeaf l → held last p ≡ held linked p
      leaf-last-same p l is =
          let now = (steps.stays p (not-leaf p (some-leaf (held old p) l is))).keeps.leaf l is in last-same p (leaf-not-top p l is) (λ same. (now.0, now.1)) (leaf-no-parent text old context part steps.stood steps.distinct p l is)

      pub leaves-kept : (p : OpaqueNodePtr K V P) (l : LeafNode K V P) → held old p ≡ HeldLeaf l → KeepsAt old last p
      leaves-kept p l is = keeps-on old linked last p (steps.stays p (not-leaf p (some-leaf (held old p) l is))) (leaf-last-same p l is)

      -- the new leaf is held to the end, and so is the changed node
      new-not-top : leaf ≢ top
      new-not-top same = elim steps.top_was [
        | inl at ↦ part-root (ap (held old) (sym at.0 ∙ sym same) ∙ steps.free)
        | inr free ↦ (let wrong : HeldLeaf steps.entry.leaf ≡ Nothing = sym steps.entry.is_held ∙ ap (held linked) same ∙ free in absurd (cc))
      ]

      leaf-last : held last leaf ≡ HeldLeaf steps.entry.leaf
      leaf-last = last-same leaf new-not-top (λ same. absurd (part-root (ap (held old) (sym same) ∙ steps.free))) (λ is. parent-held leaf is steps.free) ∙ steps.entry.is_held

      pub top-last : held last top ≡ held new top
      top-last = is_put.others top (λ is. elim steps.top_was [
        | inl at ↦ not-parent top (subst (Contains (places part)) (sym at.0) (root-place part)) is
        | inr free ↦ held-on old linked top (steps.stays top (not-leaf top (parent-held top is))) (parent-held top is) free
      ])

      fresh-last : (p : OpaqueNodePtr K V P) → held last p ≢ Nothing → held old p ≡ Nothing → (p ≡ top) ⊎ (p ≡ leaf)
      fresh-last p is free = elim (cases_pointer p top) [
        | inl at ↦ inl at
        | inr other ↦ elim (cases_pointer p leaf) [
          | inl new ↦ inr new
          | inr differ ↦ absurd (is (last-same p other (λ same. absurd (part-root (ap (held old) (sym same) ∙ free))) (λ is_above. parent-held p is_above free) ∙ (steps.stays p differ).nothing free))
        ]
      ]

      -- lists of leaves stay linked to the end
      leaf-at-last : (k : ℕ) (l : LeafNode K V P) → leaf_at linked k ≡ Some l → leaf_at last k ≡ Some l
      leaf-at-last k l at = leaf-of (leaf_at last k) l (elim (cases_pointer (opaque_pointer LeafKind k) leaf) [
        | inl same ↦
            let one : HeldLeaf steps.entry.leaf ≡ HeldLeaf l = sym steps.entry.is_held ∙ ap (held linked) (sym same) ∙ ap held_leaf at in
            ap (held last) same ∙ leaf-last ∙ one
        | inr differ ↦
            let there : held linked (opaque_pointer LeafKind k) ≡ HeldLeaf l = ap held_leaf at in
            let (was, is) = was-leaf old linked (opaque_pointer LeafKind k) l (steps.stays (opaque_pointer LeafKind k) differ) there in
            leaf-last-same (opaque_pointer LeafKind k) was is ∙ there
      ])

      -- the leaf has its place in the tree
      module _ (prefix : List ℕ) (before after : Branches (OpaqueNodePtr K V P)) (byte : ℕ) where
        abbrev taken : Tree (OpaqueNodePtr K V P)
        taken = with_leaf top prefix before byte leaf (text key) after

        pub record HasTaken : Type 0 where
          pub place : HasPlace (path_to context) prefix before byte after
          pub leads : IsPrefixOf ((path_to context ++ prefix) ++ byte ∷ []) (text key)
          pub short : length (text key) < 2 ^ 32
          pub node : InnerNode (OpaqueNodePtr K V P)
          pub is_held : held new top ≡ HeldInner node
          pub shows : NodeStands P node prefix (join before (Branch byte (Leaf leaf (text key)) after))
          pub stand_before : AllStandIn text last before
          pub stand_after : AllStandIn text last after
          pub same_leaves : leaves part ≡ branch_leaves before ++ branch_leaves after
          pub is_linked : IsLinkedList linked (map opaque_key (map (λ l. l.0) (leaves_before context ++ branch_leaves before)) ++ opaque_key leaf ∷ map opaque_key (map (λ l. l.0) (branch_leaves after ++ leaves_after context)))
          pub gone : (p : OpaqueNodePtr K V P) → Contains (places part) p → Contains (places (with_leaf top prefix before byte leaf (text key) after)) p ⊎ (held last p ≡ Nothing)
          pub smallest_kinds : HasSmallestKinds (with_leaf top prefix before byte leaf (text key) after)

        module _ (has : HasTaken) where
          abbrev left : List (OpaqueNodePtr K V P × List ℕ)
          left = leaves_before context ++ branch_leaves before

          abbrev right : List (OpaqueNodePtr K V P × List ℕ)
          right = branch_leaves after ++ leaves_after context

          old-leaves : leaves (plug context part) ≡ left ++ right
          old-leaves = leaves-parted context part before after has.same_leaves

          new-leaves : leaves (plug context taken) ≡ left ++ (leaf, text key) ∷ right
          new-leaves = leaves-filled context prefix top before byte leaf (text key) after

          keys-now : map opaque_key (leaf_pointers (plug context taken)) ≡ map opaque_key (map (λ l. l.0) left) ++ opaque_key leaf ∷ map opaque_key (map (λ l. l.0) right)
          keys-now = ap (λ all. map opaque_key (map (λ l. l.0) all)) new-leaves ∙ ap (map opaque_key) (map-append (λ l. l.0) left ((leaf, text key) ∷ right)) ∙ map-append opaque_key (map (λ l. l.0) left) (leaf ∷ map (λ l. l.0) right)

          taken-stands : StandsIn text last taken
          taken-stands = (
            has.node,
            top-last ∙ has.is_held,
            has.shows,
            stand-join text last before (Branch byte (Leaf leaf (text key)) after) has.stand_before ((steps.entry.leaf, leaf-last, ap text steps.entry.key), has.stand_after),
          )

          exchanged : IsExchanged old last text context part taken
          exchanged = record {
            stood = steps.stood;
            stands = taken-stands;
            adopted = is_put.adopted;
            others = λ p inside outside away. others-kept p (place-held text old (plug context part) steps.stood p inside) (λ same. outside (subst (Contains (places part)) (sym same) (root-place part))) away;
          }

          added-alone : IsAlone text old root (plug context part) → IsAlone text last root_now (plug context taken)
          added-alone alone =
              let whole = alone-grown text old last root context part taken alone steps.distinct exchanged
              (taken-sound (path_to context) prefix top before byte leaf (text key) after has.place has.leads (omega (arith, has.short)))
              has.smallest_kinds
              (texts-filled (λ x. length x < 2 ^ 32) part prefix top before byte leaf (text key) after has.same_leaves (texts-part (λ x. length x < 2 ^ 32) context part alone.short) has.short)
              (subst (IsLinkedList last) (sym keys-now) (list-on linked last leaf-at-last _ has.is_linked))
              (λ p is free. in-taken prefix top before byte leaf (text key) after p (elim (fresh-last p is free) [ inl at ↦ inl at | inr new ↦ inr (inl new) ]))
              has.gone in
              subst (λ r. IsAlone text last r (plug context taken)) (is_put.at_root taken refl) whole

          added-entered : (alone : IsAlone text old root (plug context part)) → AreApart (texts (plug context part)) → AreApart (texts (plug context taken)) → IsEntered text old last key value
          added-entered alone apart new_apart =
              let now = added-alone alone in
              let keeps : (p : OpaqueNodePtr K V P) (x : List ℕ) → Contains (leaves (plug context part)) (p, x) → KeepsAt old last p =
              λ p x inside. let there = leaf-held-in text old (plug context part) alone.is_tree.stands p x inside in leaves-kept p there.0 there.1 in
              record {
                entry = ap (λ k. entry_at text last (text k)) (sym steps.entry.key) ∙ held-entry text last root_now (plug context taken) now new_apart leaf steps.entry.leaf leaf-last ∙ ap Some (λ i. (steps.entry.key i, steps.entry.value i));
                others = entries-but text old last root root_now (plug context part) (plug context taken) alone now apart new_apart (text key)
                    (λ p x inside differ. let was = leaf-was left right leaf (text key) (plug context part) (plug context taken) old-leaves new-leaves p x inside differ in (was, keeps p x was))
                    (λ p x inside differ. (leaf-stays left right leaf (text key) (plug context part) (plug context taken) old-leaves new-leaves p x inside, keeps p x inside));
                leaves = λ p l is differ. (leaves-kept p l is).leaf l is;
              }

          -- the tree has the leaf, and its entries that of the leaf
          pub tree-added : IsAlone text old root (plug context part) → ((path : List ℕ) (t : Tree (OpaqueNodePtr K V P)) → IsSound path t → AreApart (texts t)) → IsArt text last (Some root_now) × IsEntered text old last key value × HoldsEntry last leaf key value
          tree-added alone apart =
              let now = added-alone alone in (
                (plug context taken, now),
                added-entered alone (apart [] (plug context part) alone.is_tree.sound) (apart [] (plug context taken) now.is_tree.sound),
                record { leaf = steps.entry.leaf; is_held = leaf-last; key = steps.entry.key; value = steps.entry.value },
              )

-- where the first step only made spare capacity, what is added after it is added by both
pub entered-from : {K V : Type 0} {P : ℕ} (text : K → List ℕ) (old reserved last : NodeArena K V P) (key : K) (value : V) (root : OpaqueNodePtr K V P) (tree : Tree (OpaqueNodePtr K V P)) → IsAlone text old root tree → AreApart (texts tree) → SameNodes old reserved
    → IsEntered text reserved last key value → IsEntered text old last key value
entered-from text old reserved last key value root tree alone apart same entered =
    record { entry = entered.entry; others = λ x differ. entered.others x differ ∙ entries-stay text old reserved same root tree alone apart x; leaves = λ p l is differ. entered.leaves p l (same p ∙ is) differ }
