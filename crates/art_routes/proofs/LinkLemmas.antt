-- The leaf before or after a side of a key, by the links.
use Rattle.art_routes.proofs.LeafNames.{All-append, All-cons, All-nil, AreOn, Contains, Contains-append_right, First, IsAlone, IsBesideKey, IsFirstAfter, IsLastBefore, IsLinkedList, Last, LeafPtr, List, NodeArena, None, OpaqueNodePtr, Option, Side, Some, Tree, [], ap, append_assoc, arith, false, first-member, inl, inr, is_before, leaf-held-in, leaf_place, leaf_pointer, leaves, lit<, next-member, next_at, opaque_key, opaque_pointer, option_map, previous-member, previous_at, refl, slab_key, slab_keys_of, slice_get, subst, sym, true, ℕ, ◌++◌, ◌<◌, ◌^◌, ◌∙◌, ◌∷◌, ◌≡◌}
use Rattle.art_header.specs.declared.node_type.NodeType.TheVariants as kinds
use Rattle.art_routes.proofs.RangeLemmas.{keys-append, snoc}

-- the size in memory of a pointer to a leaf
pub leaf-pointer-fits : 8 < 2 ^ 63
leaf-pointer-fits = lit< tt

pub as-pointers : {K V : Type 0} {P : ℕ} (o : Option (LeafPtr K V P)) → option_map (leaf_pointer {K = K} {V = V} {P = P}) o ≡ option_map (opaque_pointer {K = K} {V = V} {P = P} kinds.Leaf) (option_map slab_key o)
as-pointers None = refl
as-pointers (Some leaf) = refl

module _ {K V : Type 0} {P : ℕ} {text : K → List ℕ} {arena : NodeArena K V P} {root : OpaqueNodePtr K V P} {tree : Tree (OpaqueNodePtr K V P)} (alone : IsAlone text arena root tree) (side : Side) (key : List ℕ) where
  abbrev FirstAfter : Option ℕ → Type 0
  FirstAfter o = IsFirstAfter side key (leaves tree) (option_map (opaque_pointer {K = K} {V = V} {P = P} kinds.Leaf) o)

  abbrev LastBefore : Option ℕ → Type 0
  LastBefore o = IsLastBefore side key (leaves tree) (option_map (opaque_pointer {K = K} {V = V} {P = P} kinds.Leaf) o)

  module _ (at : ℕ) where
    abbrev this : OpaqueNodePtr K V P
    this = opaque_pointer kinds.Leaf at

    -- the first leaf after the place is itself
    pub first-itself : (beside : IsBesideKey side key (leaves tree) First this) → FirstAfter (Some at)
    first-itself beside =
        (beside.text, beside.left, beside.right, beside.is, beside.left_before, All-cons (λ leaf. is_before side key leaf.1 ≡ false) (this, beside.text) beside.right beside.here beside.right_after)

    through : (beside : IsBesideKey side key (leaves tree) Last this) → AreOn side key true (beside.left ++ (this, beside.text) ∷ [])
    through beside =
        All-append (λ leaf. is_before side key leaf.1 ≡ true) beside.left ((this, beside.text) ∷ []) beside.left_before
        (All-cons (λ leaf. is_before side key leaf.1 ≡ true) (this, beside.text) [] beside.here (All-nil (λ leaf. is_before side key leaf.1 ≡ true)))

    -- the last leaf before the place is itself
    pub last-itself : (beside : IsBesideKey side key (leaves tree) Last this) → LastBefore (Some at)
    last-itself beside = (beside.text, beside.left, beside.right, beside.is, through beside, beside.right_after)

    -- the leaf before the first one after the place is the last before it
    pub before-first : (beside : IsBesideKey side key (leaves tree) First this) (previous : Option ℕ) → previous ≡ previous_at arena at → LastBefore previous
    before-first beside previous previous_is = elim (snoc beside.left) [
      | inl none ↦
          let is : leaves tree ≡ (this, beside.text) ∷ beside.right = beside.is ∙ ap (λ l. l ++ (this, beside.text) ∷ beside.right) none in
          let no = previous_is ∙ first-member arena (slab_keys_of beside.right) at (subst (IsLinkedList arena) (ap slab_keys_of is) alone.is_linked) in
          let after = All-cons (λ leaf. is_before side key leaf.1 ≡ false) (this, beside.text) beside.right beside.here beside.right_after in
          subst LastBefore (sym no) (subst (AreOn side key false) (sym is) after)
      | inr (ys, (q, x), left_is) ↦
          let later = (this, beside.text) ∷ beside.right in
          let is : leaves tree ≡ ys ++ (q, x) ∷ later = beside.is ∙ ap (λ l. l ++ later) left_is ∙ append_assoc ys ((q, x) ∷ []) later in
          let some = previous_is ∙ previous-member arena (slab_keys_of ys) (slab_keys_of beside.right) (opaque_key q) at (subst (IsLinkedList arena) (ap slab_keys_of is ∙ keys-append ys ((q, x) ∷ later)) alone.is_linked) in
          let inside = subst (λ all. Contains all (q, x)) (sym is) (Contains-append_right ys ((q, x) ∷ later) (q, x) (0, omega arith, refl)) in
          let there = leaf-held-in text arena tree alone.is_tree.stands q x inside in
          let same = leaf_place arena q there.0 there.1 in
          subst LastBefore (sym some) (
            x,
            ys,
            later,
            is ∙ ap (λ p. ys ++ (p, x) ∷ later) (sym same),
            subst (λ p. AreOn side key true (ys ++ (p, x) ∷ [])) (sym same) (subst (AreOn side key true) left_is beside.left_before),
            All-cons (λ leaf. is_before side key leaf.1 ≡ false) (this, beside.text) beside.right beside.here beside.right_after,
          )
    ]

    -- the leaf after the last one before the place is the first after it
    pub after-last : (beside : IsBesideKey side key (leaves tree) Last this) (next : Option ℕ) → next ≡ next_at arena at → FirstAfter next
    after-last beside next next_is = by_right beside.right beside.is beside.right_after
      where
        by_right : (right : List (OpaqueNodePtr K V P × List ℕ)) → leaves tree ≡ beside.left ++ (this, beside.text) ∷ right → AreOn side key false right → FirstAfter next
        by_right right is after = by_after right is after (next_is ∙ next-member arena (slab_keys_of beside.left) (slab_keys_of right) at (subst (IsLinkedList arena) (ap slab_keys_of is ∙ keys-append beside.left ((this, beside.text) ∷ right)) alone.is_linked))
          where
            by_after : (right : List (OpaqueNodePtr K V P × List ℕ)) → leaves tree ≡ beside.left ++ (this, beside.text) ∷ right → AreOn side key false right → next ≡ slice_get (slab_keys_of right) 0 → FirstAfter next
            by_after [] is after none = subst FirstAfter (sym none) (subst (AreOn side key true) (sym is) (through beside))
            by_after ((q, x) ∷ right) is after some =
                let inside = subst (λ all. Contains all (q, x)) (sym is) (Contains-append_right beside.left ((this, beside.text) ∷ (q, x) ∷ right) (q, x) (1, omega arith, refl)) in
                let there = leaf-held-in text arena tree alone.is_tree.stands q x inside in
                let same = leaf_place arena q there.0 there.1 in
                subst FirstAfter (sym some) (
                  x,
                  beside.left ++ (this, beside.text) ∷ [],
                  right,
                  is ∙ sym (append_assoc beside.left ((this, beside.text) ∷ []) ((q, x) ∷ right)) ∙ ap (λ p. (beside.left ++ (this, beside.text) ∷ []) ++ (p, x) ∷ right) (sym same),
                  through beside,
                  subst (λ p. AreOn side key false ((p, x) ∷ right)) (sym same) after,
                )
