-- The leaves between two places in the order of texts, and what they hold.
use Rattle.art_routes.proofs.LeafNames.{All, All-append, All-head, All-tail, All-weaker, AllHold, AreDistinct, AreOn, Bool, EndsIn, Held, HeldLeaf, HoldsEntryOf, IsAlone, IsFirstAfter, IsLastBefore, IsLinkedAfter, IsLinkedList, LeadsOver, LeafNode, LeafPtr, List, NodeArena, None, Nothing, OpaqueNodePtr, Option, Side, Some, Tree, [], all_left, all_right, ap, append-nil, append_assoc, cond, entries_of, entries_under, false, filter, filter-append, filter_map-append, get_or, held, inl, inr, is_before, is_between, key_and_value, leaf_at, leaf_key, leaf_pointer, leaves, map, map-append, not, opaque_key, option_map, refl, run_entries, slab_key, slab_keys_of, slice_get, subst, sym, true, ℕ, ◌&&◌, ◌++◌, ◌∙◌, ◌∷◌, ◌≡◌, ◌≢◌, ◌⊎◌}
use Rattle.art_routes.proofs.EntryLemmas.{entries-of-leaves, leaves-hold}
use Rattle.art_routes.proofs.RunLemmas.{distinct-front, ends-push, entries-cons, list-links, run-is}

pub keys-append : {K V : Type 0} {P : ℕ} (a b : List (OpaqueNodePtr K V P × List ℕ)) → slab_keys_of (a ++ b) ≡ slab_keys_of a ++ slab_keys_of b
keys-append a b = ap (map opaque_key) (map-append (λ leaf. leaf.0) a b) ∙ map-append opaque_key (map (λ leaf. leaf.0) a) (map (λ leaf. leaf.0) b)

-- a list is empty or has a last member
pub snoc : {X : Type 0} (xs : List X) → (xs ≡ []) ⊎ ((ys : List X) × (y : X) × (xs ≡ ys ++ y ∷ []))
snoc [] = inl refl
snoc (x ∷ xs) = elim (snoc xs) [
  | inl none ↦ inr ([], x, ap (λ zs. x ∷ zs) none)
  | inr (ys, y, is) ↦ inr (x ∷ ys, y, ap (λ zs. x ∷ zs) is)
]

-- of two cuts of one list, what is after the one and not before the other
align : {X : Type 0} (Q : X → Type 0) (A B L : List X) (f : X) (R : List X) → A ++ B ≡ L ++ f ∷ R → All (λ x. Q x → ⊥) B → Q f → (rest : List X) × (A ≡ L ++ f ∷ rest) × (R ≡ rest ++ B)
align Q [] B L f R is out inside = absurd (All-head (λ x. Q x → ⊥) f R (all_right (λ x. Q x → ⊥) L (f ∷ R) (subst (All (λ x. Q x → ⊥)) is out)) inside)
align Q (a ∷ A) B [] f R is out inside =
    let same : a ≡ f = cc in
    let tails : A ++ B ≡ R = cc in
    (A, ap (λ x. x ∷ A) same, sym tails)
align Q (a ∷ A) B (l ∷ L) f R is out inside =
    let same : a ≡ l = cc in
    let tails : A ++ B ≡ L ++ f ∷ R = cc in
    let (rest, left, right) = align Q A B L f R tails out inside in
    (rest, (λ i. same i ∷ left i), right)

-- and where the other is not before it
align-past : {X : Type 0} (Q : X → Type 0) (A B L : List X) (f : X) (R : List X) → A ++ B ≡ L ++ f ∷ R → All (λ x. Q x → ⊥) A → Q f → (rest : List X) × (B ≡ rest ++ f ∷ R)
align-past Q [] B L f R is out inside = (L, is)
align-past Q (a ∷ A) B [] f R is out inside =
    let same : a ≡ f = cc in absurd (All-head (λ x. Q x → ⊥) a A out (subst Q (sym same) inside))
align-past Q (a ∷ A) B (l ∷ L) f R is out inside =
    let tails : A ++ B ≡ L ++ f ∷ R = cc in align-past Q A B L f R tails (All-tail (λ x. Q x → ⊥) a A out) inside

ends-part : (xs : List ℕ) (j : ℕ) (js : List ℕ) (back : ℕ) → EndsIn (xs ++ j ∷ js) back → EndsIn (j ∷ js) back
ends-part [] j js back ends = ends
ends-part (x ∷ []) j js back ends = ends
ends-part (x ∷ y ∷ xs) j js back ends = ends-part (y ∷ xs) j js back ends

distinct-right : (xs ys : List ℕ) → AreDistinct (xs ++ ys) → AreDistinct ys
distinct-right [] ys distinct = distinct
distinct-right (x ∷ xs) ys distinct = distinct-right xs ys distinct.1

-- two tests that come to something
not-both : (b : Bool) → b ≡ true → b ≡ false → ⊥
not-both b is_true is_false = let wrong : true ≡ false = sym is_true ∙ is_false in absurd (cc)

pub between-no : (a b : Bool) → a ≡ true → (b && not a) ≡ false
between-no a true before = ap not before
between-no a false before = refl

pub between-past : (a b : Bool) → b ≡ false → (b && not a) ≡ false
between-past a b past = ap (λ b. b && not a) past

pub between-yes : (a b : Bool) → a ≡ false → b ≡ true → (b && not a) ≡ true
between-yes a b after before = ap (λ b. b && not a) before ∙ ap not after

module _ {K V : Type 0} {P : ℕ} (text : K → List ℕ) (arena : NodeArena K V P) where
  list-drop : (before : Option ℕ) (xs ys : List ℕ) → IsLinkedAfter arena before (xs ++ ys) → (last : Option ℕ) × IsLinkedAfter arena last ys
  list-drop before [] ys is_linked = (before, is_linked)
  list-drop before (x ∷ xs) ys is_linked = list-drop (Some x) xs ys is_linked.1

  pub hold-left : (a b : List (OpaqueNodePtr K V P × List ℕ)) → AllHold text arena (a ++ b) → AllHold text arena a
  hold-left [] b hold = tt
  hold-left (x ∷ a) b hold = (hold.0, hold-left a b hold.1)

  pub hold-right : (a b : List (OpaqueNodePtr K V P × List ℕ)) → AllHold text arena (a ++ b) → AllHold text arena b
  hold-right [] b hold = hold
  hold-right (x ∷ a) b hold = hold-right a b hold.1

  -- one of the leaves holds its entry
  pub holds-one : (whole left right : List (OpaqueNodePtr K V P × List ℕ)) (leaf : OpaqueNodePtr K V P × List ℕ) → whole ≡ left ++ leaf ∷ right → AllHold text arena whole → HoldsEntryOf text arena leaf.0 leaf.1
  holds-one whole left right leaf is hold = (hold-right left (leaf ∷ right) (subst (AllHold text arena) is hold)).0

  -- the entries of some leaves
  abbrev pub held_by : List (OpaqueNodePtr K V P × List ℕ) → List (K × V)
  held_by pairs = entries_under arena (slab_keys_of pairs)

  pub held-append : (a b : List (OpaqueNodePtr K V P × List ℕ)) → held_by (a ++ b) ≡ held_by a ++ held_by b
  held-append a b = ap (entries_under arena) (keys-append a b) ∙ filter_map-append (λ key. option_map key_and_value (leaf_at arena key)) (slab_keys_of a) (slab_keys_of b)

  module _ (test : List ℕ → Bool) where
    abbrev kept : List (K × V) → List (K × V)
    kept entries = filter (λ entry. test (text entry.0)) entries

    keep-all : (pairs : List (OpaqueNodePtr K V P × List ℕ)) → AllHold text arena pairs → All (λ leaf. test leaf.1 ≡ true) pairs → kept (held_by pairs) ≡ held_by pairs
    keep-all [] hold all = refl
    keep-all (pair ∷ pairs) hold all =
        let cons = entries-cons arena (opaque_key pair.0) (slab_keys_of pairs) hold.0.leaf hold.0.at in
        let here : test (text (key_and_value hold.0.leaf).0) ≡ true = ap test hold.0.has ∙ All-head (λ leaf. test leaf.1 ≡ true) pair pairs all in
        let rest = keep-all pairs hold.1 (All-tail (λ leaf. test leaf.1 ≡ true) pair pairs all) in
        ap kept cons ∙ ap (λ b. cond b (key_and_value hold.0.leaf ∷ kept (held_by pairs)) (kept (held_by pairs))) here ∙ ap (λ es. key_and_value hold.0.leaf ∷ es) rest ∙ sym cons

    leave-all : (pairs : List (OpaqueNodePtr K V P × List ℕ)) → AllHold text arena pairs → All (λ leaf. test leaf.1 ≡ false) pairs → kept (held_by pairs) ≡ []
    leave-all [] hold all = refl
    leave-all (pair ∷ pairs) hold all =
        let cons = entries-cons arena (opaque_key pair.0) (slab_keys_of pairs) hold.0.leaf hold.0.at in
        let here : test (text (key_and_value hold.0.leaf).0) ≡ false = ap test hold.0.has ∙ All-head (λ leaf. test leaf.1 ≡ false) pair pairs all in
        let rest = leave-all pairs hold.1 (All-tail (λ leaf. test leaf.1 ≡ false) pair pairs all) in
        ap kept cons ∙ ap (λ b. cond b (key_and_value hold.0.leaf ∷ kept (held_by pairs)) (kept (held_by pairs))) here ∙ rest

  module _ (start_side : Side) (start : List ℕ) (end_side : Side) (end : List ℕ) where
    abbrev passes : K × V → Bool
    passes entry = is_between start_side start end_side end (text entry.0)

    keep : (pairs : List (OpaqueNodePtr K V P × List ℕ)) → AllHold text arena pairs → All (λ leaf. is_between start_side start end_side end leaf.1 ≡ true) pairs → filter passes (held_by pairs) ≡ held_by pairs
    keep = keep-all (is_between start_side start end_side end)

    leave : (pairs : List (OpaqueNodePtr K V P × List ℕ)) → AllHold text arena pairs → All (λ leaf. is_between start_side start end_side end leaf.1 ≡ false) pairs → filter passes (held_by pairs) ≡ []
    leave = leave-all (is_between start_side start end_side end)

    before-start : (pairs : List (OpaqueNodePtr K V P × List ℕ)) → AreOn start_side start true pairs → All (λ leaf. is_between start_side start end_side end leaf.1 ≡ false) pairs
    before-start pairs before =
        All-weaker (λ leaf. is_before start_side start leaf.1 ≡ true) (λ leaf. is_between start_side start end_side end leaf.1 ≡ false) (λ leaf early. between-no (is_before start_side start leaf.1) (is_before end_side end leaf.1) early) pairs before

    past-end : (pairs : List (OpaqueNodePtr K V P × List ℕ)) → AreOn end_side end false pairs → All (λ leaf. is_between start_side start end_side end leaf.1 ≡ false) pairs
    past-end pairs past =
        All-weaker (λ leaf. is_before end_side end leaf.1 ≡ false) (λ leaf. is_between start_side start end_side end leaf.1 ≡ false) (λ leaf late. between-past (is_before start_side start leaf.1) (is_before end_side end leaf.1) late) pairs past

    between : (pairs : List (OpaqueNodePtr K V P × List ℕ)) → AreOn start_side start false pairs → AreOn end_side end true pairs → All (λ leaf. is_between start_side start end_side end leaf.1 ≡ true) pairs
    between pairs after before = λ k d inside. between-yes (is_before start_side start (get_or pairs k d).1) (is_before end_side end (get_or pairs k d).1) (after k d inside) (before k d inside)

    module _ (tree : Tree (OpaqueNodePtr K V P)) (hold : AllHold text arena (leaves tree)) where
      -- where all is before the start, or past the end, nothing is within
      pub none-low : AreOn start_side start true (leaves tree) → filter passes (held_by (leaves tree)) ≡ []
      none-low before = leave (leaves tree) hold (before-start (leaves tree) before)

      pub none-high : AreOn end_side end false (leaves tree) → filter passes (held_by (leaves tree)) ≡ []
      none-high past = leave (leaves tree) hold (past-end (leaves tree) past)

      -- where what is after the start is past the end
      pub none-between : (left right : List (OpaqueNodePtr K V P × List ℕ)) → leaves tree ≡ left ++ right → AreOn start_side start true left → AreOn end_side end false right → filter passes (held_by (leaves tree)) ≡ []
      none-between left right is before past =
          leave (leaves tree) hold (subst (All (λ leaf. is_between start_side start end_side end leaf.1 ≡ false)) (sym is) (All-append (λ leaf. is_between start_side start end_side end leaf.1 ≡ false) left right (before-start left before) (past-end right past)))

      module _ (L R left B : List (OpaqueNodePtr K V P × List ℕ)) (f b : OpaqueNodePtr K V P × List ℕ)
          (is_low : leaves tree ≡ L ++ f ∷ R) (before_L : AreOn start_side start true L) (after_low : AreOn start_side start false (f ∷ R))
          (is_high : leaves tree ≡ left ++ b ∷ B) (before_A : AreOn end_side end true (left ++ b ∷ [])) (after_B : AreOn end_side end false B) where
        both : (left ++ b ∷ []) ++ B ≡ L ++ f ∷ R
        both = append_assoc left (b ∷ []) B ∙ sym is_high ∙ is_low

        -- the first leaf after the start is past the end
        pub none-within : is_before end_side end f.1 ≡ false → filter passes (held_by (leaves tree)) ≡ []
        none-within past =
            let outside = All-weaker (λ leaf. is_before end_side end leaf.1 ≡ true) (λ leaf. is_before end_side end leaf.1 ≡ false → ⊥) (λ leaf early late. not-both (is_before end_side end leaf.1) early late) (left ++ b ∷ []) before_A in
            let parts = align-past (λ leaf. is_before end_side end leaf.1 ≡ false) (left ++ b ∷ []) B L f R both outside past in
            none-between L (f ∷ R) is_low before_L (all_right (λ leaf. is_before end_side end leaf.1 ≡ false) parts.0 (f ∷ R) (subst (AreOn end_side end false) parts.1 after_B))

        module _ (is_linked : IsLinkedList arena (slab_keys_of (leaves tree))) (inside : is_before end_side end f.1 ≡ true) where
          pub aligned : (rest : List (OpaqueNodePtr K V P × List ℕ)) × (left ++ b ∷ [] ≡ L ++ f ∷ rest) × (R ≡ rest ++ B)
          aligned =
              let outside = All-weaker (λ leaf. is_before end_side end leaf.1 ≡ false) (λ leaf. is_before end_side end leaf.1 ≡ true → ⊥) (λ leaf late early. not-both (is_before end_side end leaf.1) early late) B after_B in
              align (λ leaf. is_before end_side end leaf.1 ≡ true) (left ++ b ∷ []) B L f R both outside inside

          -- the leaves from the first to the last
          abbrev pub mid : List (OpaqueNodePtr K V P × List ℕ)
          mid = f ∷ aligned.0

          whole : leaves tree ≡ L ++ (mid ++ B)
          whole = is_low ∙ ap (λ r. L ++ f ∷ r) aligned.2

          keys-whole : slab_keys_of (leaves tree) ≡ slab_keys_of L ++ (slab_keys_of mid ++ slab_keys_of B)
          keys-whole = ap slab_keys_of whole ∙ keys-append L (mid ++ B) ∙ ap (λ ks. slab_keys_of L ++ ks) (keys-append mid B)

          pub range-leads : LeadsOver arena (opaque_key f.0) (opaque_key b.0) (slab_keys_of mid)
          range-leads =
              let there = list-drop None (slab_keys_of L) (slab_keys_of mid ++ slab_keys_of B) (subst (IsLinkedAfter arena None) keys-whole is_linked.is_linked) in
              record {
                before = there.0;
                after = slice_get (slab_keys_of B) 0;
                linked = list-links arena there.0 (slab_keys_of mid) (slab_keys_of B) there.1;
                distinct = distinct-front (slab_keys_of mid) (slab_keys_of B) (distinct-right (slab_keys_of L) (slab_keys_of mid ++ slab_keys_of B) (subst AreDistinct keys-whole is_linked.distinct));
                rest = slab_keys_of aligned.0;
                begins = refl;
                ends = ends-part (slab_keys_of L) (opaque_key f.0) (slab_keys_of aligned.0) (opaque_key b.0) (subst (λ ks. EndsIn ks (opaque_key b.0)) (sym (keys-append left (b ∷ [])) ∙ ap slab_keys_of aligned.1 ∙ keys-append L mid) (ends-push (slab_keys_of left) (opaque_key b.0)));
              }

          pub range-is : filter passes (held_by (leaves tree)) ≡ held_by mid
          range-is =
              let parts = subst (AllHold text arena) whole hold in
              let tail = hold-right L (mid ++ B) parts in
              let in_left = leave L (hold-left L (mid ++ B) parts) (before-start L before_L) in
              let after = all_left (λ leaf. is_before start_side start leaf.1 ≡ false) mid B (subst (AreOn start_side start false) (ap (λ r. f ∷ r) aligned.2) after_low) in
              let before = all_right (λ leaf. is_before end_side end leaf.1 ≡ true) L mid (subst (AreOn end_side end true) aligned.1 before_A) in
              let in_mid = keep mid (hold-left mid B tail) (between mid after before) in
              let in_right = leave B (hold-right mid B tail) (past-end B after_B) in
              ap (λ pairs. filter passes (held_by pairs)) whole
              ∙ ap (filter passes) (held-append L (mid ++ B) ∙ ap (λ es. held_by L ++ es) (held-append mid B))
              ∙ filter-append passes (held_by L) (held_by mid ++ held_by B)
              ∙ ap (λ es. es ++ filter passes (held_by mid ++ held_by B)) in_left
              ∙ filter-append passes (held_by mid) (held_by B)
              ∙ ap (λ es. es ++ filter passes (held_by B)) in_mid
              ∙ ap (λ es. held_by mid ++ es) in_right ∙ append-nil (held_by mid)

module _ {K V : Type 0} {P : ℕ} {text : K → List ℕ} {arena : NodeArena K V P} {root : OpaqueNodePtr K V P} {tree : Tree (OpaqueNodePtr K V P)} (alone : IsAlone text arena root tree) (start_side : Side) (start : List ℕ) (end_side : Side) (end : List ℕ) where
  abbrev within : List (K × V) → List (K × V)
  within entries = filter (λ entry. is_between start_side start end_side end (text entry.0)) entries

  of-leaves : (part : List (K × V)) → within (held_by text arena (leaves tree)) ≡ part → part ≡ within (entries_of text arena)
  of-leaves part is = sym is ∙ ap within (entries-of-leaves alone)

  pub range-low : IsFirstAfter start_side start (leaves tree) None → [] ≡ within (entries_of text arena)
  range-low before = of-leaves [] (none-low text arena start_side start end_side end tree (leaves-hold alone) before)

  pub range-high : IsLastBefore end_side end (leaves tree) None → [] ≡ within (entries_of text arena)
  range-high past = of-leaves [] (none-high text arena start_side start end_side end tree (leaves-hold alone) past)

  module _ (front : LeafPtr K V P) (low : IsFirstAfter start_side start (leaves tree) (Some (leaf_pointer front))) where
    pub front-held : HoldsEntryOf text arena (leaf_pointer front) low.0
    front-held = holds-one text arena (leaves tree) low.1 low.2 (leaf_pointer front, low.0) low.3 (leaves-hold alone)

    pub front-text : (leaf : LeafNode K V P) → held arena (leaf_pointer front) ≡ HeldLeaf leaf → text (leaf_key leaf) ≡ low.0
    front-text leaf is =
        let one : HeldLeaf leaf ≡ HeldLeaf front-held.leaf = sym is ∙ front-held.there in
        let same : leaf ≡ front-held.leaf = cc in ap (λ l. text (leaf_key l)) same ∙ front-held.has

    module _ (back : LeafPtr K V P) (high : IsLastBefore end_side end (leaves tree) (Some (leaf_pointer back))) where
      abbrev f : OpaqueNodePtr K V P × List ℕ
      f = (leaf_pointer front, low.0)

      abbrev b : OpaqueNodePtr K V P × List ℕ
      b = (leaf_pointer back, high.0)

      pub range-apart : is_before end_side end low.0 ≡ false → [] ≡ within (entries_of text arena)
      range-apart past = of-leaves [] (none-within text arena start_side start end_side end tree (leaves-hold alone) low.1 low.2 high.1 high.2 f b low.3 low.4 low.5 high.3 high.4 high.5 past)

      module _ (inside : is_before end_side end low.0 ≡ true) where
        abbrev pub mid-keys : List ℕ
        mid-keys = slab_keys_of (mid text arena start_side start end_side end tree (leaves-hold alone) low.1 low.2 high.1 high.2 f b low.3 low.4 low.5 high.3 high.4 high.5 alone.is_linked inside)

        abbrev pub range-run : (keys : List ℕ) × LeadsOver arena (slab_key front) (slab_key back) keys
        range-run = (mid-keys, range-leads text arena start_side start end_side end tree (leaves-hold alone) low.1 low.2 high.1 high.2 f b low.3 low.4 low.5 high.3 high.4 high.5 alone.is_linked inside)

        pub range-some : run_entries arena (Some (front, back)) ≡ within (entries_of text arena)
        range-some =
            of-leaves (run_entries arena (Some (front, back)))
            (range-is text arena start_side start end_side end tree (leaves-hold alone) low.1 low.2 high.1 high.2 f b low.3 low.4 low.5 high.3 high.4 high.5 alone.is_linked inside
            ∙ ap (entries_under arena) (sym (run-is arena (slab_key front) (slab_key back) range-run.0 range-run.1)))

pub something-held : {H L : Type 0} (at : Held H L) (leaf : L) → at ≡ HeldLeaf leaf → at ≢ Nothing
something-held at leaf is none = let wrong : HeldLeaf leaf ≡ Nothing = sym is ∙ none in absurd (cc)
