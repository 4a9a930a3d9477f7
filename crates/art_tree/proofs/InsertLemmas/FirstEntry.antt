-- Insertion: the first entry of a tree, and an entry that replaces another.
use Rattle.art_tree.proofs.Names.{LeafPtr, LeafKind, ◌≡◌, ◌≢◌, ◌∙◌, ℕ, length, ◌<◌, ◌^◌, List, [], ◌∷◌, Contains, Some, None, inl, inr, refl, sym, ap, arith, Option, All-cons, All-nil, leaf_key, leaf_value, previous_key, next_key, slab_key, opaque_pointer, OpaqueNodePtr, LeafNode, NodeArena, HeldLeaf, Nothing, held, Changes, held_leaf, leaf_at, Tree, Leaf, leaves, IsAlone, IsArt, KeepsAt, entry_at, IsEntered, leaf_pointer, by_option, the_one, list-exchanged, stands-exchanged}
use Rattle.art_steps.proofs.SharedLemmas.DictionaryLemmas.{AreApart, empty-entry, held-entry, leaf-held-in, leaf-of-entry}
use Rattle.art_steps.proofs.SharedLemmas.ExchangedTree.{entries-but}
use Rattle.art_steps.proofs.InsertLemmas.NodeLemmas.{one-leaf, some-leaf}
use Rattle.art_links.proofs.HeldNodes.{cases_pointer, leaf-of}
use Rattle.art_tree.proofs.SharedLemmas.TreeLaws.{apart-there}

module _ {K V : Type 0} {P : ℕ} (text : K → List ℕ) (old new : NodeArena K V P) (key : K) (value : V) where
  -- a leaf alone in an arena is a tree
  module _ (empty : (pointer : OpaqueNodePtr K V P) → held old pointer ≡ Nothing) (at : LeafPtr K V P) (leaf : LeafNode K V P) (changes : Changes old new (leaf_pointer at) (HeldLeaf leaf)) (is_key : leaf_key leaf ≡ key) (is_value : leaf_value leaf ≡ value) where
    alone-there : Tree (OpaqueNodePtr K V P)
    alone-there = Leaf (leaf_pointer at) (text key)

    pub first-alone : length (text key) < 2 ^ 32 → previous_key leaf ≡ None → next_key leaf ≡ None → IsAlone text new (leaf_pointer at) (Leaf (leaf_pointer at) (text key))
    first-alone short no_previous no_next = record {
      is_tree = record { at_root = refl; stands = (leaf, changes.changed, ap text is_key); sound = ((text key, refl), omega (arith, short)) };
      smallest_kinds = tt;
      short = All-cons (λ x. length x < 2 ^ 32) (text key) [] short (All-nil (λ x. length x < 2 ^ 32));
      is_linked = record { distinct = ((λ k d inside. absurd (omega (arith, inside))), tt); is_linked = ((leaf, leaf-of (leaf_at new (slab_key at)) leaf changes.changed, no_previous, no_next), tt) };
      no_others = λ pointer is_held. elim (cases_pointer pointer (leaf_pointer at)) [
        | inl same ↦ (0, omega arith, sym same)
        | inr differ ↦ absurd (is_held (changes.others pointer differ ∙ empty pointer))
      ];
    }

    pub first-entered : (alone : IsAlone text new (leaf_pointer at) (Leaf (leaf_pointer at) (text key))) → AreApart (text key ∷ []) → IsEntered text old new key value
    first-entered alone apart = record {
      entry = ap (λ k. entry_at text new (text k)) (sym is_key) ∙ held-entry text new (leaf_pointer at) (Leaf (leaf_pointer at) (text key)) alone apart (leaf_pointer at) leaf changes.changed ∙ ap Some (λ i. (is_key i, is_value i));
      others = λ x differ. none-other x differ ∙ sym (empty-entry text old empty x);
      leaves = λ p l is differ. (let wrong : HeldLeaf l ≡ Nothing = sym is ∙ empty p in absurd (cc));
    }
      where
        none-other : (x : List ℕ) → x ≢ text key → entry_at text new x ≡ None
        none-other x differ = by_option (entry_at text new x) (entry_at text new x ≡ None) (λ is. is) (λ entry is.
            let found = leaf-of-entry text new (leaf_pointer at) (Leaf (leaf_pointer at) (text key)) alone x entry is in
            absurd (differ (sym (ap (λ pair. pair.1) (the_one (leaf_pointer at, text key) (found.pointer, x) found.inside)))))

-- a leaf with another entry of the same text in its place, between the same neighbours
module _ {K V : Type 0} {P : ℕ} (text : K → List ℕ) (old new : NodeArena K V P) (slot : ℕ) (was now : LeafNode K V P) (found : leaf_at old slot ≡ Some was) (changes : Changes old new (opaque_pointer LeafKind slot) (HeldLeaf now)) (same_text : text (leaf_key now) ≡ text (leaf_key was))
    (same_previous : previous_key now ≡ previous_key was) (same_next : next_key now ≡ next_key was) where
  abbrev at : OpaqueNodePtr K V P
  at = opaque_pointer LeafKind slot

  there : held old at ≡ HeldLeaf was
  there = ap held_leaf found

  still-alone : (root : OpaqueNodePtr K V P) (tree : Tree (OpaqueNodePtr K V P)) → IsAlone text old root tree → IsAlone text new root tree
  still-alone root tree alone = record {
    is_tree = record { at_root = alone.is_tree.at_root; stands = stands-exchanged text old new slot was now found changes tree same_text alone.is_tree.stands; sound = alone.is_tree.sound };
    smallest_kinds = alone.smallest_kinds;
    short = alone.short;
    is_linked = list-exchanged old new slot was now found changes same_previous same_next _ alone.is_linked;
    no_others = λ q is_held. alone.no_others q (λ none. elim (cases_pointer q at) [
      | inl same ↦ some-leaf (held old at) was there (ap (held old) (sym same) ∙ none)
      | inr differ ↦ is_held (changes.others q differ ∙ none)
    ]);
  }

  -- the tree stands as it did
  pub replaced-art : (root : Option (OpaqueNodePtr K V P)) → IsArt text old root → IsArt text new root
  replaced-art None nothing = absurd (some-leaf (held old at) was there (nothing at))
  replaced-art (Some root) (tree, alone) = (tree, still-alone root tree alone)

  -- the text has the new entry, and every other one its own
  pub replaced-entered : (root : Option (OpaqueNodePtr K V P)) → IsArt text old root → IsEntered text old new (leaf_key now) (leaf_value now)
  replaced-entered None nothing = absurd (some-leaf (held old at) was there (nothing at))
  replaced-entered (Some root) (tree, alone) =
      let after = still-alone root tree alone in
      let apart = apart-there alone in
      let other : (q : OpaqueNodePtr K V P) (leaf : LeafNode K V P) → held old q ≡ HeldLeaf leaf → text (leaf_key leaf) ≢ text (leaf_key now) → q ≢ at =
      λ q leaf is differ same. differ (ap (λ l. text (leaf_key l)) (one-leaf (held old at) leaf was (ap (held old) (sym same) ∙ is) there) ∙ sym same_text) in
      let keeps : (q : OpaqueNodePtr K V P) (x : List ℕ) → Contains (leaves tree) (q, x) → x ≢ text (leaf_key now) → Contains (leaves tree) (q, x) × KeepsAt old new q =
      λ q x inside differ.
      let (leaf, is, has) = leaf-held-in text old tree alone.is_tree.stands q x inside in
      let stays = changes.others q (other q leaf is (λ same. differ (sym has ∙ same))) in
      (inside, record { inner = λ node holds. stays ∙ holds; leaf = λ l holds. (l, stays ∙ holds, refl, refl) }) in
      record {
        entry = held-entry text new root tree after (apart-there after) at now changes.changed;
        others = entries-but text old new root root tree tree alone after apart apart (text (leaf_key now)) keeps keeps;
        leaves = λ q leaf holds differ. (leaf, changes.others q (other q leaf holds differ) ∙ holds, refl, refl);
      }

  -- the text had the old one
  pub replaced-was : (root : Option (OpaqueNodePtr K V P)) → IsArt text old root → entry_at text old (text (leaf_key was)) ≡ Some (leaf_key was, leaf_value was)
  replaced-was None nothing = absurd (some-leaf (held old at) was there (nothing at))
  replaced-was (Some root) (tree, alone) = held-entry text old root tree alone (apart-there alone) at was there
