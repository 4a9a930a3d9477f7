-- Changes of the links of leaves, and the lists that they link.
use Rattle.std.proofs.Common.{◌≡◌, ◌≢◌, ◌↔◌, ◌⊎◌, ◌∙◌, ℕ, List, [], ◌∷◌, ◌++◌, Option, Some, None, refl, sym, ap, subst, inl, inr, append_assoc, slice_set}
use Rattle.std.specs.Option.{ForSome, option_and_then, option_map}
use Rattle.slab.specs.Slab as slabs
use Rattle.std.specs.List.{All, AllByRecursion}
use Rattle.std.proofs.lemmas.List.Elements.{All-head, All-tail}
use Rattle.std.proofs.lemmas.Bool.{cases_eq}
use Rattle.std.proofs.lemmas.Option.{same_Some}
use Rattle.art_header.specs.declared.node_type.NodeType.TheVariants as kinds
use Rattle.art_nodes.specs.Pointers.{opaque_key, slab_key, opaque_pointer}
use Rattle.art_nodes.specs.Leaf.{leaf_key, leaf_value, previous_key, next_key, with_value}
use Rattle.art_nodes.specs.declared.pointers.OpaqueNodePtr.{OpaqueNodePtr}
use Rattle.art_nodes.specs.declared.leaf_node.LeafNode.{LeafNode}
use Rattle.art_arena.specs.Arena.{LeafPtr, NodeArena, Held, Nothing, HeldInner, HeldLeaf, held_leaf, held, Changes}
use Rattle.art_arena.specs.Links.{leaf_at, previous_at, next_at, IsLinkedList, IsLinkedAfter, HoldsLeaf, IsUnlinked, IsKnit, SameButLinks, Joins, StandsBetween, TakesPlace, with_value_at}
use Rattle.art_arena.specs.Relinking.{SetsBoth, SetsNext, SetsPrevious}
use Rattle.art_arena.proofs.LinkedLists.{first_or, last_or, last_or-push, last_or-each, first_or-each, first_or-slice_get, Linked, Linked-split, Linked-exchanged, unlinked_is_apart, Each-append, Each-split, Each-weaker, Distinct-from, AreDistinct-from, Distinct-insert, Distinct-remove}

none_differs : (k : ℕ) → None ≢ Some k
none_differs k = λ same. cc

some_differs : (a b : ℕ) → b ≢ a → Some a ≢ Some b
some_differs a b differ = λ same. differ (sym (same_Some _ _ same))

same_option : (o : Option ℕ) (k : ℕ) → (o ≡ Some k) ⊎ (o ≢ Some k)
same_option None k = inr (none_differs k)
same_option (Some x) k = elim (cases_eq k x) [ inl same ↦ inl (ap Some (sym same)) | inr differ ↦ inr (some_differs x k differ) ]

-- a test of the one neighbour is a test of every neighbour
pub named_back-some : (R : Type 0) (there back : ℕ → Option ℕ) (this other : ℕ) → there this ≡ Some other → R ↔ (back other ≡ Some this) → R ↔ ((k : ℕ) → there this ≡ Some k → back k ≡ Some this)
named_back-some R there back this other named test =
    (λ holds k also. ap back (same_Some _ _ (sym also ∙ named)) ∙ test.0 holds, λ all. test.1 (all other named))

pub named_back-none : (there back : ℕ → Option ℕ) (this : ℕ) → there this ≡ None → (k : ℕ) → there this ≡ Some k → back k ≡ Some this
named_back-none there back this none k named = let e : None ≡ Some k = sym none ∙ named in cc

module _ {K V : Type 0} {P : ℕ} where
  pub held_leaf-same : (a b : Option (LeafNode K V P)) → held_leaf {H = OpaqueNodePtr K V P} a ≡ held_leaf b → a ≡ b
  held_leaf-same None None same = refl
  held_leaf-same None (Some b) same = cc
  held_leaf-same (Some a) None same = cc
  held_leaf-same (Some a) (Some b) same = cc

  pub leaf_there : (o : Option (LeafNode K V P)) → (o ≡ None) ⊎ ((leaf : LeafNode K V P) × (o ≡ Some leaf))
  leaf_there None = inl refl
  leaf_there (Some leaf) = inr (leaf, refl)

  pub leaf_at-changed : (old new : NodeArena K V P) (key : ℕ) (leaf : LeafNode K V P) → Changes old new (opaque_pointer kinds.Leaf key) (HeldLeaf leaf) → leaf_at new key ≡ Some leaf
  leaf_at-changed old new key leaf changes = held_leaf-same (leaf_at new key) (Some leaf) changes.changed

  pub leaf_at-other : (old new : NodeArena K V P) (key : ℕ) (now : Held (OpaqueNodePtr K V P) (LeafNode K V P)) → Changes old new (opaque_pointer kinds.Leaf key) now → (other : ℕ) → other ≢ key → leaf_at new other ≡ leaf_at old other
  leaf_at-other old new key now changes other differ =
      held_leaf-same (leaf_at new other) (leaf_at old other) (changes.others (opaque_pointer kinds.Leaf other) (λ same. differ (ap opaque_key same)))

  pub SameButLinks-refl : (arena : NodeArena K V P) → SameButLinks arena arena
  SameButLinks-refl arena = record { nothing = λ pointer free. free; inner = λ pointer node held. held; leaf = λ key leaf found. (leaf, found, refl, refl) }

  pub SameButLinks-trans : (old mid new : NodeArena K V P) → SameButLinks old mid → SameButLinks mid new → SameButLinks old new
  SameButLinks-trans old mid new first second = record {
    nothing = λ pointer free. second.nothing pointer (first.nothing pointer free);
    inner = λ pointer node held. second.inner pointer node (first.inner pointer node held);
    leaf = λ key leaf found.
        let one = first.leaf key leaf found in
        let two = second.leaf key one.0 one.1 in
        (two.0, two.1, two.2 ∙ one.2, two.3 ∙ one.3);
  }

  SameButLinks-written : (old new : NodeArena K V P) (key : ℕ) (leaf now : LeafNode K V P) → Changes old new (opaque_pointer kinds.Leaf key) (HeldLeaf now) → leaf_at old key ≡ Some leaf → leaf_key now ≡ leaf_key leaf → leaf_value now ≡ leaf_value leaf → SameButLinks old new
  SameButLinks-written old new key leaf now changes found same_key same_value =
      let stood : held old (opaque_pointer kinds.Leaf key) ≡ HeldLeaf leaf = ap held_leaf found in
      record {
        nothing = λ pointer free. changes.others pointer (λ same. let e : HeldLeaf leaf ≡ Nothing = sym stood ∙ ap (held old) (sym same) ∙ free in cc) ∙ free;
        inner = λ pointer node inner. changes.others pointer (λ same. let e : HeldLeaf leaf ≡ HeldInner node = sym stood ∙ ap (held old) (sym same) ∙ inner in cc) ∙ inner;
        leaf = λ at before there. elim (cases_eq at key) [
          | inl same ↦
              let e : before ≡ leaf = same_Some _ _ (sym there ∙ ap (leaf_at old) same ∙ found) in
              (now, ap (leaf_at new) same ∙ leaf_at-changed old new key now changes, same_key ∙ ap leaf_key (sym e), same_value ∙ ap leaf_value (sym e))
          | inr differ ↦ (before, leaf_at-other old new key (HeldLeaf now) changes at differ ∙ there, refl, refl)
        ];
      }

  pub SetsNext-written : (old new : NodeArena K V P) (key : ℕ) (leaf now : LeafNode K V P) (next : Option ℕ) → Changes old new (opaque_pointer kinds.Leaf key) (HeldLeaf now) → leaf_at old key ≡ Some leaf → leaf_key now ≡ leaf_key leaf → leaf_value now ≡ leaf_value leaf → previous_key now ≡ previous_key leaf → next_key now ≡ next → SetsNext old new (Some key) next
  SetsNext-written old new key leaf now next changes found same_key same_value same_previous new_next = record {
    set = λ k named. ap (next_at new) (sym (same_Some _ _ named)) ∙ ap (option_and_then next_key) (leaf_at-changed old new key now changes) ∙ new_next;
    other_next = λ k other. ap (option_and_then next_key) (leaf_at-other old new key (HeldLeaf now) changes k (λ same. other (ap Some (sym same))));
    previous = λ k. elim (cases_eq k key) [
      | inl same ↦ ap (previous_at new) same ∙ ap (option_and_then previous_key) (leaf_at-changed old new key now changes) ∙ same_previous ∙ sym (ap (option_and_then previous_key) found) ∙ sym (ap (previous_at old) same)
      | inr differ ↦ ap (option_and_then previous_key) (leaf_at-other old new key (HeldLeaf now) changes k differ)
    ];
    other_leaves = λ k other. leaf_at-other old new key (HeldLeaf now) changes k (λ same. other (ap Some (sym same)));
    contents = SameButLinks-written old new key leaf now changes found same_key same_value;
  }

  pub SetsPrevious-written : (old new : NodeArena K V P) (key : ℕ) (leaf now : LeafNode K V P) (previous : Option ℕ) → Changes old new (opaque_pointer kinds.Leaf key) (HeldLeaf now) → leaf_at old key ≡ Some leaf → leaf_key now ≡ leaf_key leaf → leaf_value now ≡ leaf_value leaf → next_key now ≡ next_key leaf → previous_key now ≡ previous → SetsPrevious old new (Some key) previous
  SetsPrevious-written old new key leaf now previous changes found same_key same_value same_next new_previous = record {
    set = λ k named. ap (previous_at new) (sym (same_Some _ _ named)) ∙ ap (option_and_then previous_key) (leaf_at-changed old new key now changes) ∙ new_previous;
    other_previous = λ k other. ap (option_and_then previous_key) (leaf_at-other old new key (HeldLeaf now) changes k (λ same. other (ap Some (sym same))));
    next = λ k. elim (cases_eq k key) [
      | inl same ↦ ap (next_at new) same ∙ ap (option_and_then next_key) (leaf_at-changed old new key now changes) ∙ same_next ∙ sym (ap (option_and_then next_key) found) ∙ sym (ap (next_at old) same)
      | inr differ ↦ ap (option_and_then next_key) (leaf_at-other old new key (HeldLeaf now) changes k differ)
    ];
    other_leaves = λ k other. leaf_at-other old new key (HeldLeaf now) changes k (λ same. other (ap Some (sym same)));
    contents = SameButLinks-written old new key leaf now changes found same_key same_value;
  }

  pub SetsNext-none : (arena : NodeArena K V P) (leaf next : Option ℕ) → leaf ≡ None → SetsNext arena arena leaf next
  SetsNext-none arena leaf next none = record { set = λ k named. let e : None ≡ Some k = sym none ∙ named in cc; other_next = λ k other. refl; previous = λ k. refl; other_leaves = λ k other. refl; contents = SameButLinks-refl arena }

  pub SetsNext-some : (old new : NodeArena K V P) (key : ℕ) (leaf next : Option ℕ) → leaf ≡ Some key → SetsNext old new (Some key) next → SetsNext old new leaf next
  SetsNext-some old new key leaf next named sets = subst (λ l. SetsNext old new l next) (sym named) sets

  pub SetsPrevious-none : (arena : NodeArena K V P) (leaf previous : Option ℕ) → leaf ≡ None → SetsPrevious arena arena leaf previous
  SetsPrevious-none arena leaf previous none = record { set = λ k named. let e : None ≡ Some k = sym none ∙ named in cc; other_previous = λ k other. refl; next = λ k. refl; other_leaves = λ k other. refl; contents = SameButLinks-refl arena }

  pub SetsPrevious-some : (old new : NodeArena K V P) (key : ℕ) (leaf previous : Option ℕ) → leaf ≡ Some key → SetsPrevious old new (Some key) previous → SetsPrevious old new leaf previous
  SetsPrevious-some old new key leaf previous named sets = subst (λ l. SetsPrevious old new l previous) (sym named) sets

  pub Joins-set : (old mid new : NodeArena K V P) (before after : Option ℕ) → SetsNext old mid before after → SetsPrevious mid new after before → Joins old new before after
  Joins-set old mid new before after first second = record {
    next = λ k named. second.next k ∙ first.set k named;
    previous = λ k named. second.set k named;
    other_next = λ k other. second.next k ∙ first.other_next k other;
    other_previous = λ k other. second.other_previous k other ∙ first.previous k;
    other_leaves = λ k not_before not_after. second.other_leaves k not_after ∙ first.other_leaves k not_before;
  }

  pub SetsBoth-written : (old new : NodeArena K V P) (key : ℕ) (leaf now : LeafNode K V P) (previous next : Option ℕ) → Changes old new (opaque_pointer kinds.Leaf key) (HeldLeaf now) → leaf_at old key ≡ Some leaf → leaf_key now ≡ leaf_key leaf → leaf_value now ≡ leaf_value leaf → previous_key now ≡ previous → next_key now ≡ next → SetsBoth old new key previous next
  SetsBoth-written old new key leaf now previous next changes found same_key same_value new_previous new_next = record {
    set_previous = ap (option_and_then previous_key) (leaf_at-changed old new key now changes) ∙ new_previous;
    set_next = ap (option_and_then next_key) (leaf_at-changed old new key now changes) ∙ new_next;
    other_leaves = λ k differ. leaf_at-other old new key (HeldLeaf now) changes k differ;
    contents = SameButLinks-written old new key leaf now changes found same_key same_value;
  }

  SetsBoth-other_previous : (old new : NodeArena K V P) (leaf : ℕ) (previous next : Option ℕ) → SetsBoth old new leaf previous next → (key : ℕ) → key ≢ leaf → previous_at new key ≡ previous_at old key
  SetsBoth-other_previous old new leaf previous next sets key differ = ap (option_and_then previous_key) (sets.other_leaves key differ)

  SetsBoth-other_next : (old new : NodeArena K V P) (leaf : ℕ) (previous next : Option ℕ) → SetsBoth old new leaf previous next → (key : ℕ) → key ≢ leaf → next_at new key ≡ next_at old key
  SetsBoth-other_next old new leaf previous next sets key differ = ap (option_and_then next_key) (sets.other_leaves key differ)

  -- named by what is to be before it, then given both neighbours, then named by what is to be after
  -- it
  pub StandsBetween-set : (old one two new : NodeArena K V P) (before : Option ℕ) (this : ℕ) (after : Option ℕ) → before ≢ Some this → after ≢ Some this → SetsNext old one before (Some this) → SetsBoth one two this before after → SetsPrevious two new after (Some this) → StandsBetween old new before this after
  StandsBetween-set old one two new before this after not_before not_after first second third =
      let apart : (o : Option ℕ) (k : ℕ) → o ≢ Some this → o ≡ Some k → k ≢ this = λ o k other named same. other (named ∙ ap Some same) in
      record {
        previous = third.other_previous this not_after ∙ second.set_previous;
        next = third.next this ∙ second.set_next;
        before_next = λ k named. third.next k ∙ SetsBoth-other_next one two this before after second k (apart before k not_before named) ∙ first.set k named;
        after_previous = λ k named. third.set k named;
        other_next = λ k differ other. third.next k ∙ SetsBoth-other_next one two this before after second k differ ∙ first.other_next k other;
        other_previous = λ k differ other. third.other_previous k other ∙ SetsBoth-other_previous one two this before after second k differ ∙ first.previous k;
        other_leaves = λ k differ before_other after_other. third.other_leaves k after_other ∙ second.other_leaves k differ ∙ first.other_leaves k before_other;
      }

  -- a leaf that is held, as a leaf that may be there
  pub ForSome-held : (arena : NodeArena K V P) (leaf : LeafPtr K V P) → HoldsLeaf arena (slab_key leaf) → ForSome (Some leaf) (λ l. HoldsLeaf arena (slab_key l))
  ForSome-held arena leaf held = λ l named. subst (λ p. HoldsLeaf arena (slab_key p)) (same_Some _ _ named) held

  pub ForSome-none : (arena : NodeArena K V P) → ForSome {T = LeafPtr K V P} None (λ l. HoldsLeaf arena (slab_key l))
  ForSome-none arena = λ l named. cc

  pub HoldsLeaf-kept : (old new : NodeArena K V P) (key : ℕ) → SameButLinks old new → HoldsLeaf old key → HoldsLeaf new key
  HoldsLeaf-kept old new key same holds = elim (leaf_there (leaf_at old key)) [
    | inl none ↦ absurd (holds (ap held_leaf none))
    | inr some ↦ let now = same.leaf key some.0 some.1 in λ gone. let e : HeldLeaf now.0 ≡ Nothing = sym (ap held_leaf now.1) ∙ gone in cc
  ]

  pub leaf_held : (arena : NodeArena K V P) (key : ℕ) → HoldsLeaf arena key → (leaf : LeafNode K V P) × (leaf_at arena key ≡ Some leaf)
  leaf_held arena key holds = elim (leaf_there (leaf_at arena key)) [ inl none ↦ absurd (holds (ap held_leaf none)) | inr some ↦ some ]

  pub HoldsLeaf-found : (arena : NodeArena K V P) (key : ℕ) (leaf : LeafNode K V P) → leaf_at arena key ≡ Some leaf → HoldsLeaf arena key
  HoldsLeaf-found arena key leaf found = λ gone. let e : HeldLeaf leaf ≡ Nothing = sym (ap held_leaf found) ∙ gone in cc

  -- whoever has a neighbour is held
  pub HoldsLeaf-previous : (arena : NodeArena K V P) (key other : ℕ) → previous_at arena key ≡ Some other → HoldsLeaf arena key
  HoldsLeaf-previous arena key other named = elim (leaf_there (leaf_at arena key)) [
    | inl none ↦ absurd (let e : None ≡ Some other = sym (ap (option_and_then previous_key) none) ∙ named in cc)
    | inr some ↦ HoldsLeaf-found arena key some.0 some.1
  ]

  pub HoldsLeaf-next : (arena : NodeArena K V P) (key other : ℕ) → next_at arena key ≡ Some other → HoldsLeaf arena key
  HoldsLeaf-next arena key other named = elim (leaf_there (leaf_at arena key)) [
    | inl none ↦ absurd (let e : None ≡ Some other = sym (ap (option_and_then next_key) none) ∙ named in cc)
    | inr some ↦ HoldsLeaf-found arena key some.0 some.1
  ]

  -- a knit leaf names no leaf that names no neighbour
  pub apart-from_next : (arena : NodeArena K V P) (sibling this : ℕ) → IsKnit arena sibling → IsUnlinked arena this → next_at arena sibling ≢ Some this
  apart-from_next arena sibling this knit unlinked = λ named. let e : None ≡ Some sibling = sym unlinked.0 ∙ knit.next this named in cc

  pub apart-from_previous : (arena : NodeArena K V P) (sibling this : ℕ) → IsKnit arena sibling → IsUnlinked arena this → previous_at arena sibling ≢ Some this
  apart-from_previous arena sibling this knit unlinked = λ named. let e : None ≡ Some sibling = sym unlinked.1 ∙ knit.previous this named in cc

  -- inserted where the old leaf is, whose links are then cut
  pub TakesPlace-cut : (old mid new : NodeArena K V P) (gone this : ℕ) → this ≢ gone → StandsBetween old mid (previous_at old gone) this (next_at old gone) → SetsBoth mid new gone None None → TakesPlace old new gone this
  TakesPlace-cut old mid new gone this apart placed cut =
      let kept_previous : (k : ℕ) → k ≢ gone → previous_at new k ≡ previous_at mid k = λ k differ. SetsBoth-other_previous mid new gone None None cut k differ in
      let kept_next : (k : ℕ) → k ≢ gone → next_at new k ≡ next_at mid k = λ k differ. SetsBoth-other_next mid new gone None None cut k differ in
      record {
        unlinked = (cut.set_previous, cut.set_next);
        previous = kept_previous this apart ∙ placed.previous;
        next = kept_next this apart ∙ placed.next;
        before_next = λ k differ named. kept_next k differ ∙ placed.before_next k named;
        after_previous = λ k differ named. kept_previous k differ ∙ placed.after_previous k named;
        other_next = λ k not_this not_gone other. kept_next k not_gone ∙ placed.other_next k not_this other;
        other_previous = λ k not_this not_gone other. kept_previous k not_gone ∙ placed.other_previous k not_this other;
        other_leaves = λ k not_this not_gone not_before not_after. cut.other_leaves k not_gone ∙ placed.other_leaves k not_this not_before not_after;
      }

  Linked-from : (arena : NodeArena K V P) (before : Option ℕ) (keys : List ℕ) → IsLinkedAfter arena before keys → Linked (next_at arena) (previous_at arena) before keys None
  Linked-from arena before [] is_linked = tt
  Linked-from arena before (key ∷ keys) is_linked =
      (ap (option_and_then previous_key) is_linked.0.1 ∙ is_linked.0.2, ap (option_and_then next_key) is_linked.0.1 ∙ is_linked.0.3 ∙ sym (first_or-slice_get keys), Linked-from arena (Some key) keys is_linked.1)

  Held-from : (arena : NodeArena K V P) (before : Option ℕ) (keys : List ℕ) → IsLinkedAfter arena before keys → AllByRecursion (HoldsLeaf arena) keys
  Held-from arena before [] is_linked = tt
  Held-from arena before (key ∷ keys) is_linked = (HoldsLeaf-found arena key is_linked.0.0 is_linked.0.1, Held-from arena (Some key) keys is_linked.1)

  IsLinkedAfter-from : (arena : NodeArena K V P) (before : Option ℕ) (keys : List ℕ) → AllByRecursion (HoldsLeaf arena) keys → Linked (next_at arena) (previous_at arena) before keys None → IsLinkedAfter arena before keys
  IsLinkedAfter-from arena before [] held linked = tt
  IsLinkedAfter-from arena before (key ∷ keys) held linked =
      let some = leaf_held arena key held.0 in
      ((some.0, some.1, sym (ap (option_and_then previous_key) some.1) ∙ linked.0, sym (ap (option_and_then next_key) some.1) ∙ linked.1 ∙ first_or-slice_get keys), IsLinkedAfter-from arena (Some key) keys held.1 linked.2)

  Held-kept : (old new : NodeArena K V P) (keys : List ℕ) → SameButLinks old new → AllByRecursion (HoldsLeaf old) keys → AllByRecursion (HoldsLeaf new) keys
  Held-kept old new keys same held = Each-weaker (HoldsLeaf old) (HoldsLeaf new) (λ key holds. HoldsLeaf-kept old new key same holds) keys held

  kept-leaves : (old new : NodeArena K V P) (keys : List ℕ) → All (λ key. leaf_at new key ≡ leaf_at old key) keys → AllByRecursion (λ key. leaf_at new key ≡ leaf_at old key) keys
  kept-leaves old new [] kept = tt
  kept-leaves old new (key ∷ keys) kept = (All-head (λ k. leaf_at new k ≡ leaf_at old k) key keys kept, kept-leaves old new keys (All-tail (λ k. leaf_at new k ≡ leaf_at old k) key keys kept))

  -- a list is still linked where none of its leaves changed
  pub IsLinkedList-kept : (old new : NodeArena K V P) (keys : List ℕ) → AllByRecursion (λ key. leaf_at new key ≡ leaf_at old key) keys → IsLinkedList old keys → IsLinkedList new keys
  IsLinkedList-kept old new keys same is_list = record { distinct = is_list.distinct; is_linked = kept None keys same is_list.is_linked }
    where
      kept : (before : Option ℕ) (keys : List ℕ) → AllByRecursion (λ key. leaf_at new key ≡ leaf_at old key) keys → IsLinkedAfter old before keys → IsLinkedAfter new before keys
      kept before [] same is_linked = tt
      kept before (key ∷ keys) same is_linked = ((is_linked.0.0, same.0 ∙ is_linked.0.1, is_linked.0.2, is_linked.0.3), kept (Some key) keys same.1 is_linked.1)

  pub IsLinkedList-where_kept : (old new : NodeArena K V P) (keys : List ℕ) → All (λ key. leaf_at new key ≡ leaf_at old key) keys → IsLinkedList old keys → IsLinkedList new keys
  IsLinkedList-where_kept old new keys kept is_list = IsLinkedList-kept old new keys (kept-leaves old new keys kept) is_list

  -- in particular after an allocation
  pub IsLinkedList-allocated : (old new : NodeArena K V P) (pointer : OpaqueNodePtr K V P) (now : Held (OpaqueNodePtr K V P) (LeafNode K V P)) (keys : List ℕ) → held old pointer ≡ Nothing → Changes old new pointer now → IsLinkedList old keys → IsLinkedList new keys
  IsLinkedList-allocated old new pointer now keys free changes is_list =
      IsLinkedList-kept old new keys
      (Each-weaker (HoldsLeaf old) (λ key. leaf_at new key ≡ leaf_at old key) (λ key holds. held_leaf-same (leaf_at new key) (leaf_at old key) (changes.others (opaque_pointer kinds.Leaf key) (λ same. holds (ap (held old) same ∙ free)))) keys (Held-from old None keys is_list.is_linked))
      is_list

  pub StandsBetween-at : (old new : NodeArena K V P) (before before' : Option ℕ) (this : ℕ) (after after' : Option ℕ) → before ≡ before' → after ≡ after' → StandsBetween old new before this after → StandsBetween old new before' this after'
  StandsBetween-at old new before before' this after after' same_before same_after placed = subst (λ a. StandsBetween old new before' this a) same_after (subst (λ b. StandsBetween old new b this after) same_before placed)

  IsLinkedList-placed : (old new : NodeArena K V P) (front back : List ℕ) (this : ℕ) → StandsBetween old new (last_or None front) this (first_or back None) → SameButLinks old new → HoldsLeaf old this → AllByRecursion (λ k. k ≢ this) (front ++ back) → IsLinkedList old (front ++ back) → IsLinkedList new (front ++ this ∷ back)
  IsLinkedList-placed old new front back this placed same holds apart is_list =
      let parts = Each-split (λ k. k ≢ this) front back apart in
      let held = Each-split (HoldsLeaf old) front back (Held-from old None (front ++ back) is_list.is_linked) in
      let distinct = Distinct-from (front ++ back) is_list.distinct in
      record {
        distinct = AreDistinct-from (front ++ this ∷ back) (Distinct-insert front back this apart distinct);
        is_linked = IsLinkedAfter-from new None (front ++ this ∷ back) (Held-kept old new (front ++ this ∷ back) same (Each-append (HoldsLeaf old) front (this ∷ back) held.0 (holds, held.1)))
            (Linked-exchanged (next_at old) (previous_at old) (next_at new) (previous_at new) (λ k. k ≢ this) front [] (this ∷ []) back distinct parts.0 parts.1
            placed.before_next placed.after_previous placed.other_next placed.other_previous (placed.previous, placed.next, tt) (Linked-from old None (front ++ back) is_list.is_linked));
      }

  pub IsLinkedList-placed_after : (old new : NodeArena K V P) (before after : List ℕ) (sibling this : ℕ) → StandsBetween old new (Some sibling) this (next_at old sibling) → SameButLinks old new → HoldsLeaf old this → IsUnlinked old this → this ≢ sibling → IsLinkedList old (before ++ sibling ∷ after) → IsLinkedList new (before ++ sibling ∷ this ∷ after)
  IsLinkedList-placed_after old new before after sibling this placed same holds unlinked differ is_list =
      let linked = Linked-from old None (before ++ sibling ∷ after) is_list.is_linked in
      let at_sibling = (Linked-split (next_at old) (previous_at old) None before (sibling ∷ after) None linked).1 in
      let regroup = append_assoc before (sibling ∷ []) after in
      subst (IsLinkedList new) (append_assoc before (sibling ∷ []) (this ∷ after))
      (IsLinkedList-placed old new (before ++ sibling ∷ []) after this
      (StandsBetween-at old new (Some sibling) (last_or None (before ++ sibling ∷ [])) this (next_at old sibling) (first_or after None) (sym (last_or-push None before sibling)) at_sibling.1 placed)
      same holds
      (subst (AllByRecursion (λ k. k ≢ this)) (sym regroup) (unlinked_is_apart (next_at old) (previous_at old) before after sibling this linked unlinked.0 unlinked.1 differ))
      (subst (IsLinkedList old) (sym regroup) is_list))

  pub IsLinkedList-placed_before : (old new : NodeArena K V P) (before after : List ℕ) (sibling this : ℕ) → StandsBetween old new (previous_at old sibling) this (Some sibling) → SameButLinks old new → HoldsLeaf old this → IsUnlinked old this → this ≢ sibling → IsLinkedList old (before ++ sibling ∷ after) → IsLinkedList new (before ++ this ∷ sibling ∷ after)
  IsLinkedList-placed_before old new before after sibling this placed same holds unlinked differ is_list =
      let linked = Linked-from old None (before ++ sibling ∷ after) is_list.is_linked in
      let at_sibling = (Linked-split (next_at old) (previous_at old) None before (sibling ∷ after) None linked).1 in
      IsLinkedList-placed old new before (sibling ∷ after) this
      (StandsBetween-at old new (previous_at old sibling) (last_or None before) this (Some sibling) (Some sibling) at_sibling.0 refl placed)
      same holds (unlinked_is_apart (next_at old) (previous_at old) before after sibling this linked unlinked.0 unlinked.1 differ) is_list

  pub IsLinkedList-removed : (old new : NodeArena K V P) (before after : List ℕ) (this : ℕ) → Joins old new (previous_at old this) (next_at old this) → SameButLinks old new → IsLinkedList old (before ++ this ∷ after) → IsLinkedList new (before ++ after)
  IsLinkedList-removed old new before after this joined same is_list =
      let linked = Linked-from old None (before ++ this ∷ after) is_list.is_linked in
      let at_this = (Linked-split (next_at old) (previous_at old) None before (this ∷ after) None linked).1 in
      let held = Each-split (HoldsLeaf old) before (this ∷ after) (Held-from old None (before ++ this ∷ after) is_list.is_linked) in
      let rest = Distinct-remove before after this (Distinct-from (before ++ this ∷ after) is_list.distinct) in
      record {
        distinct = AreDistinct-from (before ++ after) rest.0;
        is_linked = IsLinkedAfter-from new None (before ++ after) (Held-kept old new (before ++ after) same (Each-append (HoldsLeaf old) before after held.0 held.1.1))
            (Linked-exchanged (next_at old) (previous_at old) (next_at new) (previous_at new) (λ k. Unit {0}) before (this ∷ []) [] after rest.0 (any before) (any after)
            (λ k named. joined.next k (at_this.0 ∙ named) ∙ at_this.1)
            (λ k named. joined.previous k (at_this.1 ∙ named) ∙ at_this.0)
            (λ k _ other. joined.other_next k (λ named. other (sym at_this.0 ∙ named)))
            (λ k _ other. joined.other_previous k (λ named. other (sym at_this.1 ∙ named)))
            tt linked);
      }
    where
      any : (xs : List ℕ) → AllByRecursion (λ k. Unit {0}) xs
      any [] = tt
      any (x ∷ xs) = (tt, any xs)

  pub IsLinkedList-replaced : (old new : NodeArena K V P) (before after : List ℕ) (gone this : ℕ) → TakesPlace old new gone this → SameButLinks old new → HoldsLeaf old this → IsUnlinked old this → this ≢ gone → IsLinkedList old (before ++ gone ∷ after) → IsLinkedList new (before ++ this ∷ after)
  IsLinkedList-replaced old new before after gone this placed same holds unlinked differ is_list =
      let linked = Linked-from old None (before ++ gone ∷ after) is_list.is_linked in
      let at_gone = (Linked-split (next_at old) (previous_at old) None before (gone ∷ after) None linked).1 in
      let held = Each-split (HoldsLeaf old) before (gone ∷ after) (Held-from old None (before ++ gone ∷ after) is_list.is_linked) in
      let rest = Distinct-remove before after gone (Distinct-from (before ++ gone ∷ after) is_list.distinct) in
      let not_gone = Each-split (λ k. k ≢ gone) before after rest.1 in
      let not_this = Each-split (λ k. k ≢ this) before (gone ∷ after) (unlinked_is_apart (next_at old) (previous_at old) before after gone this linked unlinked.0 unlinked.1 differ) in
      record {
        distinct = AreDistinct-from (before ++ this ∷ after) (Distinct-insert before after this (Each-append (λ k. k ≢ this) before after not_this.0 not_this.1.1) rest.0);
        is_linked = IsLinkedAfter-from new None (before ++ this ∷ after) (Held-kept old new (before ++ this ∷ after) same (Each-append (HoldsLeaf old) before (this ∷ after) held.0 (holds, held.1.1)))
            (Linked-exchanged (next_at old) (previous_at old) (next_at new) (previous_at new) (λ k. (k ≢ this) × (k ≢ gone)) before (gone ∷ []) (this ∷ []) after rest.0
            (pairs before not_this.0 not_gone.0) (pairs after not_this.1.1 not_gone.1)
            (λ k named. placed.before_next k (last_or-each (λ k. k ≢ gone) None before k (λ none. absurd (none_differs k none)) not_gone.0 named) (at_gone.0 ∙ named))
            (λ k named. placed.after_previous k (first_or-each (λ k. k ≢ gone) after k not_gone.1 named) (at_gone.1 ∙ named))
            (λ k apart other. placed.other_next k apart.0 apart.1 (λ named. other (sym at_gone.0 ∙ named)))
            (λ k apart other. placed.other_previous k apart.0 apart.1 (λ named. other (sym at_gone.1 ∙ named)))
            (placed.previous ∙ at_gone.0, placed.next ∙ at_gone.1, tt) linked);
      }
    where
      pairs : (xs : List ℕ) → AllByRecursion (λ k. k ≢ this) xs → AllByRecursion (λ k. k ≢ gone) xs → AllByRecursion (λ k. (k ≢ this) × (k ≢ gone)) xs
      pairs [] a b = tt
      pairs (x ∷ xs) a b = ((a.0, b.0), pairs xs a.1 b.1)

  pub Joins-at : (old new : NodeArena K V P) (before before' after after' : Option ℕ) → before ≡ before' → after ≡ after' → Joins old new before after → Joins old new before' after'
  Joins-at old new before before' after after' same_before same_after joined = subst (λ a. Joins old new before' a) same_after (subst (λ b. Joins old new b after) same_before joined)

  -- a leaf whose neighbours are joined keeps its own links
  pub own_links : (old new : NodeArena K V P) (this : ℕ) → IsKnit old this → Joins old new (previous_at old this) (next_at old this) → (previous_at new this ≡ previous_at old this) × (next_at new this ≡ next_at old this)
  own_links old new this knit joined = (
    elim (same_option (next_at old this) this) [
      | inl own ↦ joined.previous this own
      | inr other ↦ joined.other_previous this other
    ],
    elim (same_option (previous_at old this) this) [
      | inl own ↦ joined.next this own
      | inr other ↦ joined.other_next this other
    ],
  )

  -- the arena with another value in a leaf is the arena with that leaf in its place
  pub with_value_at-found : (arena : NodeArena K V P) (key : ℕ) (leaf : LeafNode K V P) (value : V) → leaf_at arena key ≡ Some leaf → with_value_at arena key value ≡ record arena { leaf = slabs.with_value arena.leaf key (with_value leaf value) }
  with_value_at-found arena key leaf value found = ap (λ (slot : Option (LeafNode K V P)). record arena { leaf = record arena.leaf { slots = slice_set arena.leaf.slots key (option_map (λ l. with_value l value) slot) } }) found
