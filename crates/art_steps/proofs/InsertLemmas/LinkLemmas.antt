-- Insertion: a leaf that is linked beside another one of a list.
use Rattle.art_steps.proofs.Names.{◌≡◌, ◌≢◌, ◌∙◌, ℕ, List, [], ◌∷◌, ◌++◌, Some, None, sym, ap, subst, append_assoc, option_and_then, leaf_key, leaf_value, previous_key, next_key, node_kind, opaque_key, opaque_pointer, OpaqueNodePtr, LeafNode, NodeArena, HeldLeaf, Nothing, held, held_leaf, Changes, HoldsLeaf, IsKnit, IsUnlinked, SameButLinks, IsLinkedList, leaf_at, text_at, HasGap, HoldsEntry, IsBeside, StaysAt, IsOnSide, End, First, Last, leaf_kind, LeafKind, knit-member}
use Rattle.art_links.proofs.HeldNodes.{kept-at, leaf-of, text-held, text-kept}
use Rattle.art_steps.proofs.SharedLemmas.KeptLists.{AreKnit, IsLinkedList-kept}
use Rattle.art_steps.proofs.InsertLemmas.NodeLemmas.{some-leaf}

module _ {K V : Type 0} {P : ℕ} where
  -- the leaf beside a gap is knit
  pub knit-beside : (arena : NodeArena K V P) (end : End) (key : ℕ) → AreKnit arena → HasGap arena end key → IsKnit arena key
  knit-beside arena First key knit gap = knit gap.left gap.beside.0 key (subst (λ right. IsLinkedList arena (gap.left ++ right)) gap.beside.1 gap.is_linked)
  knit-beside arena Last key knit gap =
      knit gap.beside.0 gap.right key (subst (IsLinkedList arena) (ap (λ left. left ++ gap.right) gap.beside.1 ∙ append_assoc gap.beside.0 (key ∷ []) gap.right) gap.is_linked)

  -- a leaf linked before the first one right of a gap, and one linked after the last one left of it
  pub list-with_before : (now new : NodeArena K V P) (this sibling : ℕ) (left right : List ℕ)
      → ((front back : List ℕ) → IsLinkedList now (front ++ sibling ∷ back) → IsLinkedList new (front ++ this ∷ sibling ∷ back))
      → IsLinkedList now (left ++ right) → IsBeside First left right sibling → IsLinkedList new (left ++ this ∷ right)
  list-with_before now new this sibling left right links s beside =
      subst (λ r. IsLinkedList new (left ++ this ∷ r)) (sym beside.1) (links left beside.0 (subst (λ r. IsLinkedList now (left ++ r)) beside.1 s))

  pub list-with_after : (now new : NodeArena K V P) (this sibling : ℕ) (left right : List ℕ)
      → ((front back : List ℕ) → IsLinkedList now (front ++ sibling ∷ back) → IsLinkedList new (front ++ sibling ∷ this ∷ back))
      → IsLinkedList now (left ++ right) → IsBeside Last left right sibling → IsLinkedList new (left ++ this ∷ right)
  list-with_after now new this sibling left right links s beside =
      let joined : (rest : List ℕ) → left ++ rest ≡ beside.0 ++ sibling ∷ rest = λ rest. ap (λ l. l ++ rest) beside.1 ∙ append_assoc beside.0 (sibling ∷ []) rest in
      subst (IsLinkedList new) (sym (joined (this ∷ right))) (links beside.0 right (subst (IsLinkedList now) (joined right) s))

-- a new leaf is allocated, and then linked
module _ {K V : Type 0} {P : ℕ} (old now : NodeArena K V P) (this : ℕ) (leaf : LeafNode K V P) (free : held old (opaque_pointer LeafKind this) ≡ Nothing) (changes : Changes old now (opaque_pointer LeafKind this) (HeldLeaf leaf)) where
  kept : (pointer : OpaqueNodePtr K V P) → held old pointer ≢ Nothing → held now pointer ≡ held old pointer
  kept = kept-at old now (opaque_pointer LeafKind this) (HeldLeaf leaf) free changes

  new-at : leaf_at now this ≡ Some leaf
  new-at = leaf-of (leaf_at now this) leaf changes.changed

  -- what linking it beside a leaf asks
  pub record IsReady (text : K → List ℕ) (end : End) (sibling : ℕ) : Type 0 where
    pub held : HoldsLeaf now this
    pub unlinked : IsUnlinked now this
    pub apart : this ≢ sibling
    pub knit : IsKnit now sibling
    pub order : IsOnSide end (text_at text now this) (text_at text now sibling)

  pub ready : (text : K → List ℕ) (key : K) → leaf_key leaf ≡ key → previous_key leaf ≡ None → next_key leaf ≡ None → (end : End) (sibling : ℕ) → HasGap old end sibling → IsOnSide end (text key) (text_at text old sibling) → IsReady text end sibling
  ready text key is no_previous no_next end sibling gap order =
      let was = knit-beside old end sibling (knit-member old) gap in
      let own : text key ≡ text_at text now this = sym (text-held text now this leaf changes.changed ∙ ap text is) in
      let other : text_at text old sibling ≡ text_at text now sibling = sym (text-kept text old now sibling was.held kept).1 in
      record {
        held = some-leaf (held now (opaque_pointer LeafKind this)) leaf changes.changed;
        unlinked = (ap (option_and_then previous_key) new-at ∙ no_previous, ap (option_and_then next_key) new-at ∙ no_next);
        apart = λ same. was.held (ap (λ k. held old (opaque_pointer LeafKind k)) (sym same) ∙ free);
        knit = knit-beside now end sibling (knit-member now) (record { left = gap.left; right = gap.right; is_linked = IsLinkedList-kept old now kept _ gap.is_linked; beside = gap.beside });
        order = subst (λ x. IsOnSide end x (text_at text now sibling)) own (subst (IsOnSide end (text key)) other order);
      }

  pub still-list : (keys : List ℕ) → IsLinkedList old keys → IsLinkedList now keys
  still-list keys s = IsLinkedList-kept old now kept keys s

  module _ (new : NodeArena K V P) (same : SameButLinks now new) where
    -- the new leaf has its entry
    pub entry-held : (key : K) (value : V) → leaf_key leaf ≡ key → leaf_value leaf ≡ value → HoldsEntry new (opaque_pointer LeafKind this) key value
    entry-held key value is_key is_value =
        let after = same.leaf this leaf new-at in
        record { leaf = after.0; is_held = ap held_leaf after.1; key = after.2 ∙ is_key; value = after.3 ∙ is_value }

    -- and all else stays
    pub others-stay : (pointer : OpaqueNodePtr K V P) → pointer ≢ opaque_pointer LeafKind this → StaysAt old new pointer
    others-stay pointer differ =
        let stays = changes.others pointer differ in
        record {
          nothing = λ none. same.nothing pointer (stays ∙ none);
          keeps = record {
            inner = λ node is. same.inner pointer node (stays ∙ is);
            leaf = λ other is.
                let kind = leaf_kind old (node_kind pointer) (opaque_key pointer) other is in
                let place : opaque_pointer LeafKind (opaque_key pointer) ≡ pointer = λ i. record { node_type = (sym kind) i; key = opaque_key pointer; leaf = record {} } in
                let after = same.leaf (opaque_key pointer) other (leaf-of (leaf_at now (opaque_key pointer)) other (ap (held now) place ∙ stays ∙ is)) in
                (after.0, ap (held new) (sym place) ∙ ap held_leaf after.1, after.2, after.3);
          };
        }
