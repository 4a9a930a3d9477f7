-- The leaves of a linked list are knit.
use Rattle.std.proofs.Common.{◌≡◌, ◌⊎◌, ◌∙◌, ℕ, List, [], ◌∷◌, ◌++◌, slice_get, Option, Some, None, inl, inr, refl, sym, ap, subst}
use Rattle.std.specs.Option.{option_and_then}
use Rattle.art_nodes.specs.Leaf.{previous_key, next_key}
use Rattle.art_nodes.specs.declared.leaf_node.LeafNode.{LeafNode}
use Rattle.art_arena.specs.Arena.{NodeArena}
use Rattle.art_arena.specs.Links.{IsKnit, IsLinkedAfter, IsLinkedList, leaf_at, next_at, previous_at}
use Rattle.art_arena.proofs.LeafLemmas.{HoldsLeaf-found}

module _ {K V : Type 0} {P : ℕ} (arena : NodeArena K V P) where
  -- the first leaf of what follows names the one before it
  names-back : (key : ℕ) (back : List ℕ) (next : Option ℕ) → next ≡ slice_get back 0 → IsLinkedAfter arena (Some key) back → (other : ℕ) → next ≡ Some other → previous_at arena other ≡ Some key
  names-back key [] next is h other e = absurd (let never : None ≡ Some other = sym is ∙ e in cc)
  names-back key (k ∷ keys) next is h other e =
      let same : k ≡ other = (let both : Some k ≡ Some other = sym is ∙ e in cc) in
      subst (λ o. previous_at arena o ≡ Some key) same (ap (option_and_then previous_key) h.0.1 ∙ h.0.2)

  -- a leaf of a linked list, and the neighbours that it names
  record Member (before : Option ℕ) (front : List ℕ) (key : ℕ) (back : List ℕ) : Type 0 where
    leaf : LeafNode K V P
    at_key : leaf_at arena key ≡ Some leaf
    last : next_key leaf ≡ slice_get back 0
    previous : (other : ℕ) → previous_key leaf ≡ Some other → ((before ≡ Some other) × (front ≡ [])) ⊎ (next_at arena other ≡ Some key)
    next : (other : ℕ) → next_key leaf ≡ Some other → previous_at arena other ≡ Some key

  member : (before : Option ℕ) (front : List ℕ) (key : ℕ) (back : List ℕ) → IsLinkedAfter arena before (front ++ key ∷ back) → Member before front key back
  member before [] key back h = record { leaf = h.0.0; at_key = h.0.1; last = h.0.3; previous = λ other e. inl (sym h.0.2 ∙ e, refl); next = names-back key back _ h.0.3 h.1 }
  member before (first ∷ []) key back h =
      let m = member (Some first) [] key back h.1 in
      record {
        leaf = m.leaf;
        at_key = m.at_key;
        last = m.last;
        previous = λ other e. elim (m.previous other e) [
          | inr named ↦ inr named
          | inl up ↦ let one : first ≡ other = (let some = up.0 in cc) in inr (subst (λ k. next_at arena k ≡ Some key) one (ap (option_and_then next_key) h.0.1 ∙ h.0.3))
        ];
        next = m.next;
      }
  member before (first ∷ second ∷ front) key back h =
      let m = member (Some first) (second ∷ front) key back h.1 in
      record { leaf = m.leaf; at_key = m.at_key; last = m.last; previous = λ other e. elim (m.previous other e) [ inr named ↦ inr named | inl up ↦ (let never = up.1 in absurd (cc)) ]; next = m.next }

  pub knit-member : (before after : List ℕ) (key : ℕ) → IsLinkedList arena (before ++ key ∷ after) → IsKnit arena key
  knit-member before after key is_list =
      let m = member None before key after is_list.is_linked in
      record {
        held = HoldsLeaf-found arena key m.leaf m.at_key;
        previous = λ other e. elim (m.previous other (sym (ap (option_and_then previous_key) m.at_key) ∙ e)) [ inr named ↦ named | inl up ↦ (let never = up.0 in absurd (cc)) ];
        next = λ other e. m.next other (sym (ap (option_and_then next_key) m.at_key) ∙ e);
      }

  pub next-member : (before after : List ℕ) (key : ℕ) → IsLinkedList arena (before ++ key ∷ after) → next_at arena key ≡ slice_get after 0
  next-member before after key is_list = let m = member None before key after is_list.is_linked in ap (option_and_then next_key) m.at_key ∙ m.last

  previous-after : (before : Option ℕ) (front : List ℕ) (this key : ℕ) (after : List ℕ) → IsLinkedAfter arena before (front ++ this ∷ key ∷ after) → previous_at arena key ≡ Some this
  previous-after before [] this key after h = ap (option_and_then previous_key) h.1.0.1 ∙ h.1.0.2
  previous-after before (first ∷ front) this key after h = previous-after (Some first) front this key after h.1

  pub previous-member : (before after : List ℕ) (this key : ℕ) → IsLinkedList arena (before ++ this ∷ key ∷ after) → previous_at arena key ≡ Some this
  previous-member before after this key is_list = previous-after None before this key after is_list.is_linked

  pub first-member : (after : List ℕ) (key : ℕ) → IsLinkedList arena (key ∷ after) → previous_at arena key ≡ None
  first-member after key is_list = ap (option_and_then previous_key) is_list.is_linked.0.1 ∙ is_list.is_linked.0.2
