-- The places of the leaves that a leaf names as its neighbours.
use Rattle.std.proofs.Common.{◌≡◌, ◌∙◌, ◌⊎◌, ℕ, suc, List, [], ◌∷◌, ◌++◌, length, length-append, map, Contains, Option, Some, None, refl, sym, ap, subst, inl, inr, arith, append_assoc, slice_get, IfSome}
use Rattle.std.proofs.lemmas.List.{length-map, map-append, nil_from_length}
use Rattle.std.proofs.lemmas.List.Elements.{Contains-append_right}
use Rattle.std.proofs.lemmas.Option.{same_Some}
use Rattle.std.specs.Option.{option_map}
use Rattle.art_bytes.proofs.Members.{first_there}
use Rattle.art_header.specs.declared.node_type.NodeType.TheVariants as kinds
use Rattle.art_nodes.specs.Pointers.{opaque_key, opaque_pointer, slab_key}
use Rattle.art_nodes.specs.declared.pointers.OpaqueNodePtr.{OpaqueNodePtr}
use Rattle.art_arena.proofs.StandingLaws.{leaf_place}
use Rattle.art_arena.proofs.TreeLaws.{first-member, next-member, previous-member}
use Rattle.art_arena.specs.Arena.{LeafPtr, NodeArena}
use Rattle.art_arena.specs.Ends.{IsAtEnd}
use Rattle.art_arena.specs.Links.{IsLinkedList, next_at, previous_at}
use Rattle.art_arena.specs.Trees.{Tree, leaves}
use Rattle.art_arena.specs.declared.ends.End.{End}
use Rattle.art_arena.specs.declared.ends.End.TheVariants.{First, Last}
use Rattle.art_tree.proofs.EntryLaws.{leaf-held-in}
use Rattle.art_steps.specs.Art.{IsAlone, IsArt}
use Rattle.art_search.specs.Search.{leaf_pointer}
use Rattle.art_index.specs.Descent.{IsUpTo}
use Rattle.art_index.specs.Places.{IsFirst, IsLast, IsNext, IsPlaced, IsPrevious}
use Rattle.art_index.proofs.PlaceLemmas.{IsAmong, among, around-place, front-long, held-placed, no-entries, parts-same}

-- the slab keys of leaves
abbrev pub keys_of : {K V : Type 0} {P : ℕ} → List (OpaqueNodePtr K V P × List ℕ) → List ℕ
keys_of all = map opaque_key (map (λ leaf. leaf.0) all)

keys-append : {K V : Type 0} {P : ℕ} (a b : List (OpaqueNodePtr K V P × List ℕ)) → keys_of (a ++ b) ≡ keys_of a ++ keys_of b
keys-append a b = ap (map opaque_key) (map-append (λ leaf. leaf.0) a b) ∙ map-append opaque_key (map (λ leaf. leaf.0) a) (map (λ leaf. leaf.0) b)

-- a list is empty or has a last member
pub snoc : {X : Type 0} (xs : List X) → (xs ≡ []) ⊎ ((ys : List X) × (y : X) × (xs ≡ ys ++ y ∷ []))
snoc [] = inl refl
snoc (x ∷ xs) = elim (snoc xs) [
  | inl none ↦ inr ([], x, ap (λ zs. x ∷ zs) none)
  | inr (ys, y, is) ↦ inr (x ∷ ys, y, ap (λ zs. x ∷ zs) is)
]

module _ {K V : Type 0} {P : ℕ} {text : K → List ℕ} {arena : NodeArena K V P} {root : OpaqueNodePtr K V P} {tree : Tree (OpaqueNodePtr K V P)} (alone : IsAlone text arena root tree) where
  -- a leaf of the tree by its slab key
  pointer-is : (q : OpaqueNodePtr K V P) (z : List ℕ) (front back : List (OpaqueNodePtr K V P × List ℕ)) (leaf : LeafPtr K V P) → leaves tree ≡ front ++ (q, z) ∷ back → slab_key leaf ≡ opaque_key q → q ≡ leaf_pointer leaf
  pointer-is q z front back leaf is same =
      let inside : Contains (leaves tree) (q, z) = subst (λ l. Contains l (q, z)) (sym is) (Contains-append_right front ((q, z) ∷ back) (q, z) (first_there (q, z) (q, z) back refl)) in
      let (node, there, has) = leaf-held-in text arena tree alone.is_tree.stands q z inside in
      sym (leaf_place arena q node there) ∙ ap (opaque_pointer {K = K} {V = V} {P = P} kinds.Leaf) (sym same)

  is_linked : (front back : List (OpaqueNodePtr K V P × List ℕ)) → leaves tree ≡ front ++ back → IsLinkedList arena (keys_of front ++ keys_of back)
  is_linked front back is = subst (IsLinkedList arena) (ap keys_of is ∙ keys-append front back) alone.is_linked

  among-long : (leaf : LeafPtr K V P) (front back : List (OpaqueNodePtr K V P × List ℕ)) (y : List ℕ) (own : IsAmong alone leaf front y back) → length own.place.left ≡ length front
  among-long leaf front back y own = sym (length-map own.place.left (λ entry. text entry.0)) ∙ ap length own.left_is ∙ length-map front (λ leaf. leaf.1)

  module _ (leaf : LeafPtr K V P) (here : IsPlaced text arena leaf) where
    -- after it no leaf is left, or the first of those is placed next
    next-among : (front back : List (OpaqueNodePtr K V P × List ℕ)) (y : List ℕ) → leaves tree ≡ front ++ (leaf_pointer leaf, y) ∷ back → length front ≡ length here.left → (found : Option (LeafPtr K V P)) → option_map slab_key found ≡ slice_get (keys_of back) 0 → IsNext text arena here found
    next-among front [] y is long (Some next) at = absurd (cc)
    next-among front [] y is long None at =
        let own = among alone leaf front [] y is in
        let parts = parts-same own.place.left (own.place.entry ∷ own.place.right) here.left (here.entry ∷ here.right) (among-long leaf front [] y own ∙ long) (sym own.place.list ∙ here.list) in
        nil_from_length here.right (omega (arith, ap length parts.1, ap length own.right_is, length-map own.place.right (λ entry. text entry.0)))
    next-among front ((q, z) ∷ back) y is long None at = absurd (cc)
    next-among front ((q, z) ∷ back) y is long (Some next) at =
        let key : slab_key next ≡ opaque_key q = same_Some (slab_key next) (opaque_key q) at in
        let split : leaves tree ≡ (front ++ (leaf_pointer leaf, y) ∷ []) ++ (q, z) ∷ back = is ∙ sym (append_assoc front ((leaf_pointer leaf, y) ∷ []) ((q, z) ∷ back)) in
        let same = pointer-is q z (front ++ (leaf_pointer leaf, y) ∷ []) back next split key in
        let there = among alone next (front ++ (leaf_pointer leaf, y) ∷ []) back z (split ∙ ap (λ p. (front ++ (leaf_pointer leaf, y) ∷ []) ++ (p, z) ∷ back) same) in
        let own = there.place in
        let longs : length own.left ≡ length (here.left ++ here.entry ∷ []) =
        omega (arith, among-long next (front ++ (leaf_pointer leaf, y) ∷ []) back z there, length-append front ((leaf_pointer leaf, y) ∷ []), length-append here.left (here.entry ∷ []), long) in
        let parts = parts-same own.left (own.entry ∷ own.right) (here.left ++ here.entry ∷ []) here.right longs (sym own.list ∙ here.list ∙ sym (append_assoc here.left (here.entry ∷ []) here.right)) in
        (own, parts.0, sym parts.1)

    -- before it no leaf is left, or the last of those is placed before it
    previous-among : (front back : List (OpaqueNodePtr K V P × List ℕ)) (y : List ℕ) → leaves tree ≡ front ++ (leaf_pointer leaf, y) ∷ back → length front ≡ length here.left → (found : Option (LeafPtr K V P)) → option_map slab_key found ≡ previous_at arena (slab_key leaf) → IsPrevious text arena here found
    previous-among front back y is long found at = elim (snoc front) [
      | inl none ↦
          let unnamed : option_map slab_key found ≡ None = at ∙ first-member arena (keys_of back) (slab_key leaf) (subst (λ f. IsLinkedList arena (keys_of f ++ keys_of ((leaf_pointer leaf, y) ∷ back))) none (is_linked front ((leaf_pointer leaf, y) ∷ back) is)) in
          first-of found unnamed (nil_from_length here.left (omega (arith, long, ap length none)))
      | inr (ys, (q, z), front_is) ↦
          let later = (leaf_pointer leaf, y) ∷ back in
          let split : leaves tree ≡ ys ++ (q, z) ∷ later = is ∙ ap (λ f. f ++ later) front_is ∙ append_assoc ys ((q, z) ∷ []) later in
          let some : option_map slab_key found ≡ Some (opaque_key q) = at ∙ previous-member arena (keys_of ys) (keys_of back) (opaque_key q) (slab_key leaf) (is_linked ys ((q, z) ∷ later) split) in
          before-of found ys z q some split (omega (arith, long, ap length front_is, length-append ys ((q, z) ∷ [])))
    ]
      where
        first-of : (found : Option (LeafPtr K V P)) → option_map slab_key found ≡ None → here.left ≡ [] → IsPrevious text arena here found
        first-of None unnamed none = none
        first-of (Some previous) unnamed none = absurd (cc)

        before-of : (found : Option (LeafPtr K V P)) (ys : List (OpaqueNodePtr K V P × List ℕ)) (z : List ℕ) (q : OpaqueNodePtr K V P) → option_map slab_key found ≡ Some (opaque_key q) → leaves tree ≡ ys ++ (q, z) ∷ (leaf_pointer leaf, y) ∷ back → suc (length ys) ≡ length here.left → IsPrevious text arena here found
        before-of None ys z q some split longer = absurd (cc)
        before-of (Some previous) ys z q some split longer =
            let later = (leaf_pointer leaf, y) ∷ back in
            let same = pointer-is q z ys later previous split (same_Some (slab_key previous) (opaque_key q) some) in
            let there = among alone previous ys later z (split ∙ ap (λ p. ys ++ (p, z) ∷ later) same) in
            let own = there.place in
            let longs : length (own.left ++ own.entry ∷ []) ≡ length here.left = omega (arith, length-append own.left (own.entry ∷ []), among-long previous ys later z there, longer) in
            let parts = parts-same (own.left ++ own.entry ∷ []) own.right here.left (here.entry ∷ here.right) longs (append_assoc own.left (own.entry ∷ []) own.right ∙ sym own.list ∙ here.list) in
            (own, sym parts.0, parts.1)

    -- the leaves that it names
    pub next-of : (found : Option (LeafPtr K V P)) → option_map slab_key found ≡ next_at arena (slab_key leaf) → IsNext text arena here found
    next-of found found_is =
        let at = around-place alone leaf here in
        next-among at.front at.back at.y at.is (front-long alone leaf here) found
        (found_is ∙ next-member arena (keys_of at.front) (keys_of at.back) (slab_key leaf) (is_linked at.front ((leaf_pointer leaf, at.y) ∷ at.back) at.is))

    pub previous-of : (found : Option (LeafPtr K V P)) → option_map slab_key found ≡ previous_at arena (slab_key leaf) → IsPrevious text arena here found
    previous-of found found_is =
        let at = around-place alone leaf here in previous-among at.front at.back at.y at.is (front-long alone leaf here) found found_is

  -- the first leaf and the last one
  pub first-placed : (leaf : LeafPtr K V P) → IsAtEnd First (leaves tree) (leaf_pointer leaf) → IsFirst text arena (Some leaf)
  first-placed leaf (y, others, is) =
      let own = among alone leaf [] others y is in
      (own.place, nil_from_length own.place.left (omega (arith, among-long leaf [] others y own)))

  pub last-placed : (leaf : LeafPtr K V P) → IsAtEnd Last (leaves tree) (leaf_pointer leaf) → IsLast text arena (Some leaf)
  last-placed leaf (y, others, is) =
      let own = among alone leaf others [] y is in
      (own.place, nil_from_length own.place.right (omega (arith, ap length own.right_is, length-map own.place.right (λ entry. text entry.0))))

-- the same in an arena with one tree at most
module _ {K V : Type 0} {P : ℕ} {text : K → List ℕ} {arena : NodeArena K V P} where
  pub no-place : (leaf : LeafPtr K V P) (here : IsPlaced text arena leaf) → IsArt text arena None → ⊥
  no-place leaf here nothing = omega (arith, ap length here.list, ap length (no-entries text arena nothing), length-append here.left (here.entry ∷ here.right))

  pub next-in : (root : Option (OpaqueNodePtr K V P)) → IsArt text arena root → (leaf : LeafPtr K V P) (here : IsPlaced text arena leaf) (found : Option (LeafPtr K V P)) → option_map slab_key found ≡ next_at arena (slab_key leaf) → IsNext text arena here found
  next-in None nothing leaf here found is = absurd (no-place leaf here nothing)
  next-in (Some root) (tree, alone) leaf here found is = next-of alone leaf here found is

  pub previous-in : (root : Option (OpaqueNodePtr K V P)) → IsArt text arena root → (leaf : LeafPtr K V P) (here : IsPlaced text arena leaf) (found : Option (LeafPtr K V P)) → option_map slab_key found ≡ previous_at arena (slab_key leaf) → IsPrevious text arena here found
  previous-in None nothing leaf here found is = absurd (no-place leaf here nothing)
  previous-in (Some root) (tree, alone) leaf here found is = previous-of alone leaf here found is

  -- a leaf before an end of some leaves is placed, if there is one
  pub placed-up-to : (root : OpaqueNodePtr K V P) (tree : Tree (OpaqueNodePtr K V P)) → IsAlone text arena root tree → (end : End) (all : List (OpaqueNodePtr K V P × List ℕ)) (found : Option (LeafPtr K V P)) → IsUpTo arena end all found → IfSome found (IsPlaced text arena)
  placed-up-to root tree alone First all None up = tt
  placed-up-to root tree alone First all (Some previous) (leaf, at_end, is_held, names) = (previous-of alone leaf (held-placed text arena leaf (Some root) (tree, alone) is_held) (Some previous) names).0
  placed-up-to root tree alone Last all None up = tt
  placed-up-to root tree alone Last all (Some other) (leaf, at_end, is_held, is) =
      let same : other ≡ leaf = same_Some other leaf is in subst (IsPlaced text arena) (sym same) (held-placed text arena leaf (Some root) (tree, alone) is_held)
