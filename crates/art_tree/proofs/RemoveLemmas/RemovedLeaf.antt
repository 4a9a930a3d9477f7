-- Removal: a tree with one leaf less, after the steps of a removal.
use Rattle.art_tree.proofs.Names.{◌≡◌, ◌≢◌, ◌⊎◌, ◌∙◌, ℕ, ◌<◌, ◌^◌, List, ◌∷◌, ◌++◌, length, map, All, Contains, Some, refl, sym, ap, subst, inl, inr, arith, append_assoc, Option, map-append, All-append, All-tail, Contains-append_right, opaque_pointer, leaf_key, OpaqueNodePtr, LeafNode, NodeArena, HeldLeaf, Nothing, held, held_leaf, SameNodes, AreDistinct, IsLinkedList, leaf_at, StandsIn, Tree, leaves, places, root_of, texts, IsSound, IsWellFormed, IsAlone, Context, plug, path_to, leaves_before, leaves_after, parent, Adopts, KeepsAt, IsExchanged, entry_at, StaysAt, HasChildUnder, IsChildOrRoot, HasSmallestKinds, above, IsRemoved, all_left, all_right, LeafKind}
use Rattle.art_steps.proofs.SharedLemmas.ChangedTree.{IsAbove, IsPutAt, has-child_under-at, held-on, is-put-at, keeps-on, leaf-no-parent, parent-above, place-held, root-place, was-leaf}
use Rattle.art_steps.proofs.SharedLemmas.DictionaryLemmas.{AreApart, leaf-held-in}
use Rattle.art_tree.proofs.RemoveLemmas.RemainingTree.{gone-entry}
use Rattle.art_steps.proofs.SharedLemmas.ExchangedSubtree.{in-part, leaves-plug}
use Rattle.art_steps.proofs.InsertLemmas.GapLemmas.{keys_of, keys-append}
use Rattle.art_steps.proofs.SharedLemmas.ExchangedTree.{alone-grown, entries-but, entries-stay, leaf-stays, leaf-was, texts-part}
use Rattle.art_steps.proofs.InsertLemmas.NodeLemmas.{one-leaf, some-inner}
use Rattle.art_links.proofs.HeldNodes.{cases_pointer, leaf-of}
use Rattle.art_steps.proofs.SharedLemmas.KeptLists.{list-on}
use Rattle.art_tree.proofs.SharedLemmas.TreeLaws.{apart-there}

-- the steps of a removal: from the first arena to the next a leaf is removed, from there to the
-- third its parent is changed or replaced, and then the new node is put there
module _ {K V : Type 0} {P : ℕ} (text : K → List ℕ) (old without new : NodeArena K V P) (context : Context (OpaqueNodePtr K V P)) (part : Tree (OpaqueNodePtr K V P)) (root leaf top : OpaqueNodePtr K V P) where
  pub record AreRemovalSteps : Type 0 where
    pub stood : StandsIn text old (plug context part)
    pub sound : IsWellFormed (plug context part)
    pub was_root : root_of (plug context part) ≡ root
    pub distinct : AreDistinct (places (plug context part))
    pub inside : Contains (places part) leaf
    pub gone : held without leaf ≡ Nothing
    pub stays : (p : OpaqueNodePtr K V P) → p ≢ leaf → StaysAt old without p
    pub other : top ≢ leaf
    pub top_was : Contains (places part) top ⊎ (held without top ≡ Nothing)
    pub top_leaf : (l : LeafNode K V P) → held old top ≡ HeldLeaf l → held new top ≡ held without top
    pub node_inner : (l : LeafNode K V P) → held old (root_of part) ≡ HeldLeaf l → ⊥
    pub same : (p : OpaqueNodePtr K V P) → p ≢ top → p ≢ root_of part → held new p ≡ held without p

  module _ (steps : AreRemovalSteps) where
    part-held : (p : OpaqueNodePtr K V P) → Contains (places part) p → held old p ≢ Nothing
    part-held p inside = place-held text old (plug context part) steps.stood p (in-part context part p inside)

    outside-not : (p : OpaqueNodePtr K V P) → held old p ≢ Nothing → (Contains (places part) p → ⊥) → p ≢ leaf
    outside-not p was outside same = outside (subst (Contains (places part)) (sym same) steps.inside)

    outside-top : (p : OpaqueNodePtr K V P) → held old p ≢ Nothing → (Contains (places part) p → ⊥) → p ≢ top
    outside-top p was outside same = elim steps.top_was [
      | inl inside ↦ outside (subst (Contains (places part)) (sym same) inside)
      | inr free ↦ held-on old without p (steps.stays p (outside-not p was outside)) was (ap (held without) same ∙ free)
    ]

    outside-node : (p : OpaqueNodePtr K V P) → (Contains (places part) p → ⊥) → p ≢ root_of part
    outside-node p outside same = outside (subst (Contains (places part)) (sym same) (root-place part))

    above_it : (p : OpaqueNodePtr K V P) → parent context ≡ Some p → IsAbove text old part p
    above_it = parent-above text old context part steps.stood steps.distinct

    not-parent : (p : OpaqueNodePtr K V P) → Contains (places part) p → parent context ≢ Some p
    not-parent p inside is = (above_it p is).outside inside

    parent-held : (p : OpaqueNodePtr K V P) → parent context ≡ Some p → held old p ≢ Nothing
    parent-held p is = some-inner (held old p) (above_it p is).node (above_it p is).is

    parent-kept : (p : OpaqueNodePtr K V P) → parent context ≡ Some p → held new p ≡ held old p
    parent-kept p is =
        let at = above_it p is in
        let was = parent-held p is in
        steps.same p (outside-top p was at.outside) (outside-node p at.outside) ∙ (steps.stays p (outside-not p was at.outside)).keeps.inner at.node at.is ∙ sym at.is

    pub has-child_under : HasChildUnder new (above context) (root_of part)
    has-child_under = has-child_under-at text old new context part steps.stood steps.sound parent-kept

    module _ (last : NodeArena K V P) (root_now : OpaqueNodePtr K V P) (child_or_root : IsChildOrRoot new last (above context) top root root_now) where
      is_put : IsPutAt old new last context top root_now part
      is_put = is-put-at text old new last context part top root root_now steps.stood steps.was_root parent-kept child_or_root

      -- what is outside of the part is kept to the end, but for the parent
      pub outside-kept : (p : OpaqueNodePtr K V P) → held old p ≢ Nothing → (Contains (places part) p → ⊥) → parent context ≢ Some p → KeepsAt old last p
      outside-kept p was outside away = keeps-on old without last p (steps.stays p (outside-not p was outside)) (is_put.others p away ∙ steps.same p (outside-top p was outside) (outside-node p outside))

      -- and what is in it, but for the leaf, its parent, and the node that is put there
      pub inside-kept : (p : OpaqueNodePtr K V P) → Contains (places part) p → p ≢ leaf → p ≢ top → p ≢ root_of part → KeepsAt old last p
      inside-kept p inside not_leaf not_top not_node = keeps-on old without last p (steps.stays p not_leaf) (is_put.others p (not-parent p inside) ∙ steps.same p not_top not_node)

      pub last-inside : (p : OpaqueNodePtr K V P) → Contains (places part) p → held last p ≡ held new p
      last-inside p inside = is_put.others p (not-parent p inside)

      pub top-last : held last top ≡ held new top
      top-last = is_put.others top (λ is. elim steps.top_was [
        | inl inside ↦ not-parent top inside is
        | inr free ↦ held-on old without top (steps.stays top steps.other) (parent-held top is) free
      ])

      leaf-same : (p : OpaqueNodePtr K V P) (l : LeafNode K V P) → held old p ≡ HeldLeaf l → p ≢ leaf → held last p ≡ held without p
      leaf-same p l is other =
          let away = leaf-no-parent text old context part steps.stood steps.distinct p l is in
          elim (cases_pointer p top) [
            | inl same ↦ is_put.others p away ∙ ap (held new) same ∙ steps.top_leaf l (ap (held old) (sym same) ∙ is) ∙ ap (held without) (sym same)
            | inr differ ↦ is_put.others p away ∙ steps.same p differ (λ same. steps.node_inner l (ap (held old) (sym same) ∙ is))
          ]

      -- every other leaf is kept
      pub leaves-kept : (p : OpaqueNodePtr K V P) (l : LeafNode K V P) → held old p ≡ HeldLeaf l → p ≢ leaf → KeepsAt old last p
      leaves-kept p l is other = keeps-on old without last p (steps.stays p other) (leaf-same p l is other)

      fresh-last : (p : OpaqueNodePtr K V P) → held last p ≢ Nothing → held old p ≡ Nothing → p ≡ top
      fresh-last p is free = elim (cases_pointer p top) [
        | inl same ↦ same
        | inr differ ↦ absurd (is (
            is_put.others p (λ is_above. parent-held p is_above free) ∙ steps.same p differ (λ same. part-held (root_of part) (root-place part) (ap (held old) (sym same) ∙ free))
            ∙ (steps.stays p (λ same. part-held leaf steps.inside (ap (held old) (sym same) ∙ free))).nothing free
            ))
      ]

      -- lists of leaves stay linked to the end
      leaf-at-last : (k : ℕ) (l : LeafNode K V P) → leaf_at without k ≡ Some l → leaf_at last k ≡ Some l
      leaf-at-last k l at =
          let p = opaque_pointer LeafKind k in
          let there : held without p ≡ HeldLeaf l = ap held_leaf at in
          let other : p ≢ leaf = λ same. (let wrong : HeldLeaf l ≡ Nothing = sym there ∙ ap (held without) same ∙ steps.gone in absurd (cc)) in
          let (was, is) = was-leaf old without p l (steps.stays p other) there in
          leaf-of (leaf_at last k) l (leaf-same p was is other ∙ there)

      -- the part without the leaf
      module _ (now : Tree (OpaqueNodePtr K V P)) (x : List ℕ) (lefts rights : List (OpaqueNodePtr K V P × List ℕ)) where
        pub record HasDropped : Type 0 where
          pub at_root : root_of now ≡ top
          pub stands : StandsIn text last now
          pub sound : IsSound (path_to context) now
          pub smallest_kinds : HasSmallestKinds now
          pub was : leaves part ≡ lefts ++ (leaf, x) ∷ rights
          pub is : leaves now ≡ lefts ++ rights
          pub is_linked : IsLinkedList without (keys_of (leaves_before context ++ lefts) ++ keys_of (rights ++ leaves_after context))
          pub freed : (p : OpaqueNodePtr K V P) → Contains (places part) p → Contains (places now) p ⊎ (held last p ≡ Nothing)

        module _ (has : HasDropped) where
          abbrev left : List (OpaqueNodePtr K V P × List ℕ)
          left = leaves_before context ++ lefts

          abbrev right : List (OpaqueNodePtr K V P × List ℕ)
          right = rights ++ leaves_after context

          whole-was : leaves (plug context part) ≡ left ++ (leaf, x) ∷ right
          whole-was =
              leaves-plug context part
              ∙ ap (λ all. leaves_before context ++ (all ++ leaves_after context)) has.was
              ∙ ap (λ all. leaves_before context ++ all) (append_assoc lefts ((leaf, x) ∷ rights) (leaves_after context))
              ∙ sym (append_assoc (leaves_before context) lefts ((leaf, x) ∷ right))

          whole-is : leaves (plug context now) ≡ left ++ right
          whole-is =
              leaves-plug context now
              ∙ ap (λ all. leaves_before context ++ (all ++ leaves_after context)) has.is
              ∙ ap (λ all. leaves_before context ++ all) (append_assoc lefts rights (leaves_after context))
              ∙ sym (append_assoc (leaves_before context) lefts right)

          fewer-texts : (Q : List ℕ → Type 0) → All Q (texts part) → All Q (texts now)
          fewer-texts Q each =
              let of : List (OpaqueNodePtr K V P × List ℕ) → List (List ℕ) = map (λ l. l.1) in
              let all = subst (All Q) (ap of has.was ∙ map-append (λ l. l.1) lefts ((leaf, x) ∷ rights)) each in
              subst (All Q) (sym (ap of has.is ∙ map-append (λ l. l.1) lefts rights)) (All-append Q (of lefts) (of rights) (all_left Q (of lefts) (x ∷ of rights) all) (All-tail Q x (of rights) (all_right Q (of lefts) (x ∷ of rights) all)))

          exchanged : IsExchanged old last text context part now
          exchanged = record {
            stood = steps.stood;
            stands = has.stands;
            adopted = subst (Adopts old last context) (sym has.at_root) is_put.adopted;
            others = λ p inside outside away. outside-kept p (place-held text old (plug context part) steps.stood p inside) outside away;
          }

          left-alone : IsAlone text old root (plug context part) → IsAlone text last root_now (plug context now)
          left-alone alone =
              let whole = alone-grown text old last root context part now alone steps.distinct exchanged has.sound has.smallest_kinds
              (fewer-texts (λ y. length y < 2 ^ 32) (texts-part (λ y. length y < 2 ^ 32) context part alone.short))
              (subst (IsLinkedList last) (sym (ap keys_of whole-is ∙ keys-append left right)) (list-on without last leaf-at-last _ has.is_linked))
              (λ p is free. subst (Contains (places now)) (has.at_root ∙ sym (fresh-last p is free)) (root-place now))
              has.freed in
              subst (λ r. IsAlone text last r (plug context now)) (is_put.at_root now has.at_root) whole

          -- a leaf with another text is not the removed one
          other-leaf : IsAlone text old root (plug context part) → (p : OpaqueNodePtr K V P) (l : LeafNode K V P) → held old p ≡ HeldLeaf l → text (leaf_key l) ≢ x → p ≢ leaf
          other-leaf alone p l is differ same =
              let there : Contains (leaves (plug context part)) (leaf, x) = subst (λ all. Contains all (leaf, x)) (sym whole-was) (Contains-append_right left ((leaf, x) ∷ right) (leaf, x) (0, omega arith, refl)) in
              let own = leaf-held-in text old (plug context part) alone.is_tree.stands leaf x there in
              differ (ap (λ one. text (leaf_key one)) (one-leaf (held old leaf) l own.0 (ap (held old) (sym same) ∙ is) own.1) ∙ own.2)

          -- every other text has the entry that it had, and this one none
          left-others : (alone : IsAlone text old root (plug context part)) → AreApart (texts (plug context part)) → AreApart (texts (plug context now)) → (y : List ℕ) → y ≢ x → entry_at text last y ≡ entry_at text old y
          left-others alone apart apart_now =
              let there : Contains (leaves (plug context part)) (leaf, x) = subst (λ all. Contains all (leaf, x)) (sym whole-was) (Contains-append_right left ((leaf, x) ∷ right) (leaf, x) (0, omega arith, refl)) in
              let own = leaf-held-in text old (plug context part) alone.is_tree.stands leaf x there in
              let keeps : (p : OpaqueNodePtr K V P) (y : List ℕ) → Contains (leaves (plug context part)) (p, y) → y ≢ x → KeepsAt old last p =
              λ p y inside differ.
              let is = leaf-held-in text old (plug context part) alone.is_tree.stands p y inside in
              leaves-kept p is.0 is.1 (λ same. differ (sym is.2 ∙ ap (λ l. text (leaf_key l)) (one-leaf (held old leaf) is.0 own.0 (ap (held old) (sym same) ∙ is.1) own.1) ∙ own.2)) in
              entries-but text old last root root_now (plug context part) (plug context now) alone (left-alone alone) apart apart_now x
              (λ p y inside differ. let was = leaf-stays left right leaf x (plug context now) (plug context part) whole-is whole-was p y inside in (was, keeps p y was differ))
              (λ p y inside differ. (leaf-was left right leaf x (plug context now) (plug context part) whole-is whole-was p y inside differ, keeps p y inside differ))

          -- the tree has all entries but that of the leaf
          pub leaf-removed : IsAlone text old root (plug context part) → (entry : K × V) → entry_at text old x ≡ Some entry → IsRemoved text old last x (Some root_now) entry
          leaf-removed alone entry was =
              let alone_now = left-alone alone in
              let apart_old = apart-there alone in
              record {
                art = (plug context now, alone_now);
                left = record {
                  gone = gone-entry text last root_now (plug context now) alone_now (plug context part) apart_old left right leaf x whole-was whole-is;
                  others = left-others alone apart_old (apart-there alone_now);
                  leaves = λ p l is differ. (leaves-kept p l is (other-leaf alone p l is differ)).leaf l is;
                };
                was = was;
              }

-- where the first step only made spare capacity, what is removed after it is removed by both
pub removed-from : {K V : Type 0} {P : ℕ} {text : K → List ℕ} {old reserved last : NodeArena K V P} {x : List ℕ} {root_now : Option (OpaqueNodePtr K V P)} {entry : K × V} {root : OpaqueNodePtr K V P} {tree : Tree (OpaqueNodePtr K V P)} → IsAlone text old root tree → SameNodes old reserved → IsRemoved text reserved last x root_now entry
    → IsRemoved text old last x root_now entry
removed-from {text = text} {old = old} {reserved = reserved} {x = x} {root = root} {tree = tree} alone same removed =
    let entries = entries-stay text old reserved same root tree alone (apart-there alone) in
    record {
      art = removed.art;
      left = record { gone = removed.left.gone; others = λ y differ. removed.left.others y differ ∙ entries y; leaves = λ p l is differ. removed.left.leaves p l (same p ∙ is) differ };
      was = sym (entries x) ∙ removed.was;
    }
