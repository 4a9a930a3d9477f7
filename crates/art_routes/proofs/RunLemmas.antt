-- Runs of linked leaves: how they are gone through, and that they end.
use Rattle.art_routes.proofs.LeafNames.{All, All-cons, All-contains, All-head, All-nil, All-tail, AreDistinct, Changes, Contains-append_right, End, EndsIn, First, HasEach, Held, HeldLeaf, IsEndAndRest, IsLinkedAfter, IsRun, Last, LeadsOver, LeafNode, LeafPtr, LinksOver, List, NodeArena, None, Nothing, OpaqueNodePtr, Option, Some, StepsOver, [], ap, append_assoc, arith, at_end, cons_option, count_by-le-length, distinct-fit, entries_under, eqb_tells, filter_map-append, first_or, get_or_append_left, held, held_leaf, inl, inr, is_some, key_and_value, leaf_at, leaf_pointer, length, length-append, next_at, next_key, none-some, opaque_key, opaque_pointer, option_and_then, option_map, option_map_or, previous_key, refl, run_entries, same_Some, slab_key, slab_keys_between, slice_get, slice_index_or, subst, suc, sym, zero, ℕ, ◌++◌, ◌∙◌, ◌∷◌, ◌≡◌, ◌≢◌, ◌≤◌}
use Rattle.art_header.specs.declared.node_type.NodeType.TheVariants as kinds
use Rattle.art_routes.proofs.ListLemmas.{slots-same}

-- what holds of each member holds of the last
ends-each : (Q : ℕ → Type 0) (keys : List ℕ) (back : ℕ) → EndsIn keys back → All Q keys → Q back
ends-each Q [] back ends all = absurd ends
ends-each Q (k ∷ []) back ends all = subst Q ends (All-head Q k [] all)
ends-each Q (k ∷ j ∷ keys) back ends all = ends-each Q (j ∷ keys) back ends (All-tail Q k (j ∷ keys) all)

pub ends-push : (keys : List ℕ) (back : ℕ) → EndsIn (keys ++ back ∷ []) back
ends-push [] back = refl
ends-push (k ∷ []) back = refl
ends-push (k ∷ j ∷ keys) back = ends-push (j ∷ keys) back

module _ {K V : Type 0} {P : ℕ} (arena : NodeArena K V P) where
  -- the leaves of a part of a linked list
  pub list-links : (before : Option ℕ) (keys after : List ℕ) → IsLinkedAfter arena before (keys ++ after) → LinksOver arena before keys (slice_get after 0)
  list-links before [] after is_linked = tt
  list-links before (k ∷ []) after is_linked = (is_linked.0, tt)
  list-links before (k ∷ j ∷ keys) after is_linked = (is_linked.0, list-links (Some k) (j ∷ keys) after is_linked.1)

  linked-held : (before : Option ℕ) (keys : List ℕ) (after : Option ℕ) → LinksOver arena before keys after → HasEach arena.leaf.slots keys
  linked-held before [] after linked = All-nil (λ k. slice_index_or arena.leaf.slots k None ≢ None)
  linked-held before (k ∷ keys) after linked =
      All-cons (λ k. slice_index_or arena.leaf.slots k None ≢ None) k keys (λ none. let wrong : Some linked.0.0 ≡ None = sym linked.0.1 ∙ none in absurd (cc)) (linked-held (Some k) keys after linked.1)

  -- a run of one leaf, or of more
  only : (front : ℕ) (rest : List ℕ) (back : ℕ) → AreDistinct (front ∷ rest) → EndsIn (front ∷ rest) back → front ≡ back → rest ≡ []
  only front [] back distinct ends same = refl
  only front (k ∷ ks) back distinct ends same = absurd (ends-each (λ j. j ≢ front) (k ∷ ks) back ends distinct.0 (sym same))

  more : (front : ℕ) (rest : List ℕ) (back : ℕ) → EndsIn (front ∷ rest) back → front ≢ back → (k : ℕ) × (ks : List ℕ) × (rest ≡ k ∷ ks)
  more front [] back ends differ = absurd (differ ends)
  more front (k ∷ ks) back ends differ = (k, ks, refl)

  -- the links lead over the keys
  walk : (before : Option ℕ) (front : ℕ) (rest : List ℕ) (after : Option ℕ) (back count : ℕ) → LinksOver arena before (front ∷ rest) after → AreDistinct (front ∷ rest) → EndsIn (front ∷ rest) back → length (front ∷ rest) ≤ count → slab_keys_between arena count front back ≡ front ∷ rest
  walk before front rest after back zero linked distinct ends fits = absurd (omega (arith, fits))
  walk before front [] after back (suc count) linked distinct ends fits = elim (eqb_tells front back) [
    | inl same ↦ rw same.0 refl
    | inr differ ↦ absurd (differ.1 ends)
  ]
  walk before front (k ∷ ks) after back (suc count) linked distinct ends fits = elim (eqb_tells front back) [
    | inl same ↦ absurd (ends-each (λ j. j ≢ front) (k ∷ ks) back ends distinct.0 (sym same.1))
    | inr differ ↦
        let next : next_at arena front ≡ Some k = ap (option_and_then next_key) linked.0.1 ∙ linked.0.3 in
        let on = walk (Some front) k ks after back count linked.1 distinct.1 ends (omega (arith, fits)) in
        rw differ.0 (ap (λ o. front ∷ option_map_or (λ next. slab_keys_between arena count next back) o []) next ∙ ap (λ keys. front ∷ keys) on)
  ]

  -- the leaves from one to another, as the view of a run has them
  pub run-is : (front back : ℕ) (keys : List ℕ) → LeadsOver arena front back keys → slab_keys_between arena (length arena.leaf.slots) front back ≡ keys
  run-is front back keys leads =
      let at_front = leads.begins in
      let linked = subst (λ all. LinksOver arena leads.before all leads.after) at_front leads.linked in
      let distinct = subst AreDistinct at_front leads.distinct in
      let few = distinct-fit arena.leaf.slots (front ∷ leads.rest) distinct (linked-held leads.before (front ∷ leads.rest) leads.after linked) in
      let fits : length (front ∷ leads.rest) ≤ length arena.leaf.slots = let most = count_by-le-length is_some arena.leaf.slots in omega (arith, few, most) in
      walk leads.before front leads.rest leads.after back (length arena.leaf.slots) linked distinct (subst (λ all. EndsIn all back) at_front leads.ends) fits ∙ sym at_front

  pub entries-cons : (key : ℕ) (keys : List ℕ) (leaf : LeafNode K V P) → leaf_at arena key ≡ Some leaf → entries_under arena (key ∷ keys) ≡ key_and_value leaf ∷ entries_under arena keys
  entries-cons key keys leaf at = ap (λ o. cons_option (option_map key_and_value o) (entries_under arena keys)) at

  -- the entries from one leaf to another
  abbrev pub span : ℕ → ℕ → List (K × V)
  span front back = entries_under arena (slab_keys_between arena (length arena.leaf.slots) front back)

  module _ (front back : ℕ) (keys : List ℕ) (leads : LeadsOver arena front back keys) where
    linked-here : LinksOver arena leads.before (front ∷ leads.rest) leads.after
    linked-here = subst (λ all. LinksOver arena leads.before all leads.after) leads.begins leads.linked

    distinct-here : AreDistinct (front ∷ leads.rest)
    distinct-here = subst AreDistinct leads.begins leads.distinct

    ends-here : EndsIn (front ∷ leads.rest) back
    ends-here = subst (λ all. EndsIn all back) leads.begins leads.ends

    -- the leaf at the front
    pub front-leaf : (leaf : LeafNode K V P) × (leaf_at arena front ≡ Some leaf)
    front-leaf = (linked-here.0.0, linked-here.0.1)

    module _ (leaf : LeafNode K V P) (at : leaf_at arena front ≡ Some leaf) where
      span-cons : span front back ≡ key_and_value leaf ∷ entries_under arena leads.rest
      span-cons = ap (entries_under arena) (run-is front back keys leads ∙ leads.begins) ∙ entries-cons front leads.rest leaf at

      pub take-only : front ≡ back → span front back ≡ key_and_value leaf ∷ []
      take-only same = span-cons ∙ ap (λ keys. key_and_value leaf ∷ entries_under arena keys) (only front leads.rest back distinct-here ends-here same)

      next-is : next_key leaf ≡ first_or leads.rest leads.after
      next-is = ap next_key (same_Some leaf linked-here.0.0 (sym at ∙ linked-here.0.1)) ∙ linked-here.0.3

      pub has-more : front ≢ back → (k : ℕ) × (ks : List ℕ) × (leads.rest ≡ k ∷ ks)
      has-more differ = more front leads.rest back ends-here differ

      pub not-last : front ≢ back → next_key leaf ≡ None → ⊥
      not-last differ none =
          let some = has-more differ in
          let wrong : None ≡ Some some.0 = sym none ∙ next-is ∙ ap (λ all. first_or all leads.after) some.2 in absurd (cc)

      pub rest-leads : front ≢ back → (k : ℕ) → next_key leaf ≡ Some k → LeadsOver arena k back leads.rest
      rest-leads differ k next =
          let some = has-more differ in
          let same : some.0 ≡ k = same_Some some.0 k (sym (ap (λ all. first_or all leads.after) some.2) ∙ sym next-is ∙ next) in
          record {
            before = Some front;
            after = leads.after;
            linked = linked-here.1;
            distinct = distinct-here.1;
            rest = some.1;
            begins = some.2 ∙ ap (λ j. j ∷ some.1) same;
            ends = subst (λ all. EndsIn all back) (sym some.2) (subst (λ all. EndsIn (front ∷ all) back) some.2 ends-here);
          }

      pub take-more : front ≢ back → (k : ℕ) → next_key leaf ≡ Some k → span front back ≡ key_and_value leaf ∷ span k back
      take-more differ k next = span-cons ∙ ap (λ keys. key_and_value leaf ∷ entries_under arena keys) (sym (run-is k back leads.rest (rest-leads differ k next)))

-- a list that ends with a member is what is before it, and the member
ends-snoc : (keys : List ℕ) (back : ℕ) → EndsIn keys back → (init : List ℕ) × (keys ≡ init ++ back ∷ [])
ends-snoc [] back ends = absurd ends
ends-snoc (k ∷ []) back ends = ([], ap (λ x. x ∷ []) ends)
ends-snoc (k ∷ j ∷ keys) back ends = let (init, is) = ends-snoc (j ∷ keys) back ends in (k ∷ init, ap (λ xs. k ∷ xs) is)

snoc-of : (x : ℕ) (xs : List ℕ) → (ys : List ℕ) × (y : ℕ) × (x ∷ xs ≡ ys ++ y ∷ [])
snoc-of x [] = ([], x, refl)
snoc-of x (z ∷ xs) = let (ys, y, is) = snoc-of z xs in (x ∷ ys, y, ap (λ all. x ∷ all) is)

pub distinct-front : (xs ys : List ℕ) → AreDistinct (xs ++ ys) → AreDistinct xs
distinct-front [] ys distinct = tt
distinct-front (x ∷ xs) ys distinct = (λ k d inside. subst (λ y. y ≢ x) (get_or_append_left xs ys d k inside) (distinct.0 k d (omega (arith, inside, length-append xs ys))), distinct-front xs ys distinct.1)

module _ {K V : Type 0} {P : ℕ} (arena : NodeArena K V P) where
  linked-after : (before : Option ℕ) (xs : List ℕ) (p back : ℕ) (after : Option ℕ) → LinksOver arena before (xs ++ p ∷ back ∷ []) after → (leaf : LeafNode K V P) × (leaf_at arena back ≡ Some leaf) × (previous_key leaf ≡ Some p)
  linked-after before [] p back after linked = (linked.1.0.0, linked.1.0.1, linked.1.0.2)
  linked-after before (x ∷ xs) p back after linked = linked-after (Some x) xs p back after linked.1

  linked-at : (before : Option ℕ) (xs : List ℕ) (back : ℕ) (after : Option ℕ) → LinksOver arena before (xs ++ back ∷ []) after → (leaf : LeafNode K V P) × (leaf_at arena back ≡ Some leaf)
  linked-at before [] back after linked = (linked.0.0, linked.0.1)
  linked-at before (x ∷ xs) back after linked = linked-at (Some x) xs back after linked.1

  -- the leaves before the last one
  linked-init : (before : Option ℕ) (xs : List ℕ) (back : ℕ) (after : Option ℕ) → LinksOver arena before (xs ++ back ∷ []) after → LinksOver arena before xs (Some back)
  linked-init before [] back after linked = tt
  linked-init before (x ∷ []) back after linked = (linked.0, tt)
  linked-init before (x ∷ y ∷ xs) back after linked = (linked.0, linked-init (Some x) (y ∷ xs) back after linked.1)

  module _ (front back : ℕ) (keys : List ℕ) (leads : LeadsOver arena front back keys) where
    parted : (init : List ℕ) × (keys ≡ init ++ back ∷ [])
    parted = ends-snoc keys back leads.ends

    linked-parted : LinksOver arena leads.before (parted.0 ++ back ∷ []) leads.after
    linked-parted = subst (λ all. LinksOver arena leads.before all leads.after) parted.1 leads.linked

    -- the leaf at the back
    pub back-leaf : (leaf : LeafNode K V P) × (leaf_at arena back ≡ Some leaf)
    back-leaf = linked-at leads.before parted.0 back leads.after linked-parted

    -- of a run of more leaves than one the back is after another one
    module _ (init : List ℕ) (is : keys ≡ init ++ back ∷ []) (differ : front ≢ back) where
      pub not-nil : (j : ℕ) × (js : List ℕ) × (init ≡ j ∷ js)
      not-nil = by_init init is
        where
          by_init : (init : List ℕ) → keys ≡ init ++ back ∷ [] → (j : ℕ) × (js : List ℕ) × (init ≡ j ∷ js)
          by_init [] is = let one : front ∷ leads.rest ≡ back ∷ [] = sym leads.begins ∙ is in let same : front ≡ back = cc in absurd (differ same)
          by_init (j ∷ js) is = (j, js, refl)

      init-first : init ≡ front ∷ not-nil.1
      init-first =
          let one : front ∷ leads.rest ≡ not-nil.0 ∷ (not-nil.1 ++ back ∷ []) = sym leads.begins ∙ is ∙ ap (λ all. all ++ back ∷ []) not-nil.2 in
          let same : front ≡ not-nil.0 = cc in not-nil.2 ∙ ap (λ j. j ∷ not-nil.1) (sym same)

      pub init-last : (ys : List ℕ) × (y : ℕ) × (init ≡ ys ++ y ∷ [])
      init-last = let (ys, y, last) = snoc-of front not-nil.1 in (ys, y, init-first ∙ last)

      linked-here-back : LinksOver arena leads.before (init ++ back ∷ []) leads.after
      linked-here-back = subst (λ all. LinksOver arena leads.before all leads.after) is leads.linked

      module _ (leaf : LeafNode K V P) (at : leaf_at arena back ≡ Some leaf) where
        pub previous-is : previous_key leaf ≡ Some init-last.1
        previous-is =
            let (other, there, named) = linked-after leads.before init-last.0 init-last.1 back leads.after (subst (λ all. LinksOver arena leads.before all leads.after) (ap (λ all. all ++ back ∷ []) init-last.2 ∙ append_assoc init-last.0 (init-last.1 ∷ []) (back ∷ [])) linked-here-back) in
            ap previous_key (same_Some leaf other (sym at ∙ there)) ∙ named

        pub init-leads : (p : ℕ) → previous_key leaf ≡ Some p → LeadsOver arena front p init
        init-leads p named =
            let same : init-last.1 ≡ p = same_Some init-last.1 p (sym previous-is ∙ named) in
            record {
              before = leads.before;
              after = Some back;
              linked = linked-init leads.before init back leads.after linked-here-back;
              distinct = distinct-front init (back ∷ []) (subst AreDistinct is leads.distinct);
              rest = not-nil.1;
              begins = init-first;
              ends = subst (EndsIn init) same (subst (λ all. EndsIn all init-last.1) (sym init-last.2) (ends-push init-last.0 init-last.1));
            }

        pub take-back : (p : ℕ) → previous_key leaf ≡ Some p → span arena front back ≡ span arena front p ++ key_and_value leaf ∷ []
        take-back p named =
            ap (entries_under arena) (run-is arena front back keys leads ∙ is)
            ∙ filter_map-append (λ key. option_map key_and_value (leaf_at arena key)) init (back ∷ [])
            ∙ ap (λ es. entries_under arena init ++ es) (entries-cons arena back [] leaf at)
            ∙ ap (λ ks. entries_under arena ks ++ key_and_value leaf ∷ []) (sym (run-is arena front p init (init-leads p named)))

    pub back-init : (init : List ℕ) × (keys ≡ init ++ back ∷ [])
    back-init = parted

    -- of one leaf the back is the front
    pub take-back-only : (leaf : LeafNode K V P) → leaf_at arena back ≡ Some leaf → front ≡ back → span arena front back ≡ [] ++ key_and_value leaf ∷ []
    take-back-only leaf at same = take-only arena front back keys leads leaf (subst (λ k. leaf_at arena k ≡ Some leaf) (sym same) at) same

-- leaves but this one are as they were
module _ {K V : Type 0} {P : ℕ} (old new : NodeArena K V P) (at : ℕ) (others : (key : ℕ) → key ≢ at → leaf_at new key ≡ leaf_at old key) where
  links-kept : (before : Option ℕ) (keys : List ℕ) (after : Option ℕ) → All (λ k. k ≢ at) keys → LinksOver old before keys after → LinksOver new before keys after
  links-kept before [] after apart linked = tt
  links-kept before (k ∷ keys) after apart linked =
      ((linked.0.0, others k (All-head (λ k. k ≢ at) k keys apart) ∙ linked.0.1, linked.0.2, linked.0.3), links-kept (Some k) keys after (All-tail (λ k. k ≢ at) k keys apart) linked.1)

  pub entries-kept : (keys : List ℕ) → All (λ k. k ≢ at) keys → entries_under new keys ≡ entries_under old keys
  entries-kept [] apart = refl
  entries-kept (k ∷ keys) apart =
      ap (λ o. cons_option (option_map key_and_value o) (entries_under new keys)) (others k (All-head (λ k. k ≢ at) k keys apart))
      ∙ ap (cons_option (option_map key_and_value (leaf_at old k))) (entries-kept keys (All-tail (λ k. k ≢ at) k keys apart))

  module _ (front back : ℕ) (keys : List ℕ) (leads : LeadsOver old front back keys) (apart : All (λ k. k ≢ at) keys) where
    -- a run without it is the same run
    pub leads-kept : LeadsOver new front back keys
    leads-kept =
        record {
          before = leads.before;
          after = leads.after;
          linked = links-kept leads.before keys leads.after apart leads.linked;
          distinct = leads.distinct;
          rest = leads.rest;
          begins = leads.begins;
          ends = leads.ends;
        }

    pub span-kept : span new front back ≡ span old front back
    span-kept = ap (entries_under new) (run-is new front back keys leads-kept) ∙ entries-kept keys apart ∙ ap (entries_under old) (sym (run-is old front back keys leads))

-- what is behind the first of different leaves, or before the last, is without it
pub rest-apart : {K V : Type 0} {P : ℕ} (arena : NodeArena K V P) (front back : ℕ) (keys : List ℕ) (leads : LeadsOver arena front back keys) → All (λ k. k ≢ front) leads.rest
rest-apart arena front back keys leads = (subst AreDistinct leads.begins leads.distinct).0

pub apart-at : (before : List ℕ) (at : ℕ) (after : List ℕ) → AreDistinct (before ++ at ∷ after) → All (λ k. k ≢ at) before × All (λ k. k ≢ at) after
apart-at [] at after distinct = (All-nil (λ k. k ≢ at), distinct.0)
apart-at (k ∷ before) at after distinct =
    let rest = apart-at before at after distinct.1 in
    (All-cons (λ k. k ≢ at) k before (λ same. All-contains (λ j. j ≢ k) (before ++ at ∷ after) at distinct.0 (Contains-append_right before (at ∷ after) at (0, omega arith, refl)) (sym same)) rest.0, rest.1)

-- the leaf at this slab key is taken out of an arena, or another is there, and no other changes
module _ {K V : Type 0} {P : ℕ} (old new : NodeArena K V P) (at : ℕ) {now : Held (OpaqueNodePtr K V P) (LeafNode K V P)} (changes : Changes old new (opaque_pointer kinds.Leaf at) now) where
  pub others-stay : (key : ℕ) → key ≢ at → leaf_at new key ≡ leaf_at old key
  others-stay key differ = slots-same (leaf_at new key) (leaf_at old key) (changes.others (opaque_pointer kinds.Leaf key) (λ same. differ (ap opaque_key same)))

-- a leaf at an end of a run, and the run without it, in an arena that has the other leaves
module _ {K V : Type 0} {P : ℕ} (old : NodeArena K V P) (ends : LeafPtr K V P × LeafPtr K V P) (run : IsRun old (Some ends)) (leaf : LeafNode K V P) where
  abbrev front : ℕ
  front = slab_key ends.0

  abbrev back : ℕ
  back = slab_key ends.1

  -- the run has no other leaf
  pub step-only : (end : End) → leaf_at old (slab_key (at_end end ends)) ≡ Some leaf → front ≡ back → StepsOver old end ends leaf None
  step-only First here same new others = (tt, take-only old front back run.0 run.1 leaf here same)
  step-only Last here same new others = (tt, take-back-only old front back run.0 run.1 leaf here same)

  -- the first leaf names the next one
  pub step-first : leaf_at old front ≡ Some leaf → front ≢ back → (next : Option (LeafPtr K V P)) → option_map slab_key next ≡ next_key leaf → StepsOver old First ends leaf (option_map (λ next. (next, ends.1)) next)
  step-first here differ None named new others = absurd (not-last old front back run.0 run.1 leaf here differ (sym named))
  step-first here differ (Some next) named new others =
      let leads = rest-leads old front back run.0 run.1 leaf here differ (slab_key next) (sym named) in
      let apart = rest-apart old front back run.0 run.1 in (
        (run.1.rest, leads-kept old new front others (slab_key next) back run.1.rest leads apart),
        take-more old front back run.0 run.1 leaf here differ (slab_key next) (sym named) ∙ ap (λ es. key_and_value leaf ∷ es) (sym (span-kept old new front others (slab_key next) back run.1.rest leads apart)),
      )

  -- the last leaf names the one before it
  pub step-last : leaf_at old back ≡ Some leaf → front ≢ back → (previous : Option (LeafPtr K V P)) → option_map slab_key previous ≡ previous_key leaf → StepsOver old Last ends leaf (option_map (λ previous. (ends.0, previous)) previous)
  step-last here differ previous named new others = by_init (back-init old front back run.0 run.1) previous named
    where
      by_init : (init : List ℕ) × (run.0 ≡ init ++ back ∷ []) → (previous : Option (LeafPtr K V P)) → option_map slab_key previous ≡ previous_key leaf
          → IsRun new (option_map (λ previous. (ends.0, previous)) previous) × IsEndAndRest Last (run_entries old (Some ends)) (key_and_value leaf) (run_entries new (option_map (λ previous. (ends.0, previous)) previous))
      by_init (init, parts) None named = absurd (none-some (init-last old front back run.0 run.1 init parts differ).1 (named ∙ previous-is old front back run.0 run.1 init parts differ leaf here))
      by_init (init, parts) (Some previous) named =
          let leads = init-leads old front back run.0 run.1 init parts differ leaf here (slab_key previous) (sym named) in
          let apart = (apart-at init back [] (subst AreDistinct parts run.1.distinct)).0 in (
            (init, leads-kept old new back others front (slab_key previous) init leads apart),
            take-back old front back run.0 run.1 init parts differ leaf here (slab_key previous) (sym named) ∙ ap (λ es. es ++ key_and_value leaf ∷ []) (sym (span-kept old new back others front (slab_key previous) init leads apart)),
          )

-- the leaf at either end of a run is there
end-leaf : {K V : Type 0} {P : ℕ} (arena : NodeArena K V P) (ends : LeafPtr K V P × LeafPtr K V P) → IsRun arena (Some ends) → (end : End) → (leaf : LeafNode K V P) × (leaf_at arena (slab_key (at_end end ends)) ≡ Some leaf)
end-leaf arena ends run First = front-leaf arena (slab_key ends.0) (slab_key ends.1) run.0 run.1
end-leaf arena ends run Last = back-leaf arena (slab_key ends.0) (slab_key ends.1) run.0 run.1

pub end-held : {K V : Type 0} {P : ℕ} (arena : NodeArena K V P) (ends : LeafPtr K V P × LeafPtr K V P) → IsRun arena (Some ends) → (end : End) (at : LeafPtr K V P) → at ≡ at_end end ends → held arena (leaf_pointer at) ≢ Nothing
end-held arena ends run end at same none =
    let there = end-leaf arena ends run end in
    let wrong : HeldLeaf there.0 ≡ Nothing = sym (ap held_leaf there.1) ∙ ap (λ at. held arena (leaf_pointer at)) (sym same) ∙ none in absurd (cc)
