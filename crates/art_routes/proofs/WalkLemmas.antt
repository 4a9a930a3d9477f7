-- A walk along the entries: what was kept, and what is left to visit.
use Rattle.art_routes.proofs.LeafNames.{All, All-head, All-tail, All-weaker, Ascend, Bool, CallableOnEachPair, Contains-append_right, HoldsFirst, IsSplit, LeafNode, Less, List, NeedsNode, NodeArena, None, OpaqueNodePtr, Option, RetainsPairs, Some, StopsRetaining, [], ap, append_assoc, are-entries, arith, ascend_rest, cond, entries_of, false, filter, image_inside, inl, inr, is_ge, key_and_value, leaf_at, leaf_key, length, nat_list_cmp_total, none_below, option_map_or, order_itself, ordering_reverse, refl, subst, sym, text_order, texts_of, true, ℕ, ◌++◌, ◌<◌, ◌∙◌, ◌∷◌, ◌≡◌}
use Rattle.art_routes.proofs.SplitLemmas.{all-above}

keep-those : {X : Type 0} (p : X → Bool) (xs : List X) → All (λ x. p x ≡ true) xs → filter p xs ≡ xs
keep-those p [] all = refl
keep-those p (x ∷ xs) all = ap (λ t. cond t (x ∷ filter p xs) (filter p xs)) (All-head (λ x. p x ≡ true) x xs all) ∙ ap (λ ys. x ∷ ys) (keep-those p xs (All-tail (λ x. p x ≡ true) x xs all))

-- one more in front, that passes a test or does not
one-kept : {X : Type 0} (p : X → Bool) (x : X) (xs : List X) (t : Bool) → p x ≡ t → filter p (x ∷ xs) ≡ cond t (x ∷ filter p xs) (filter p xs)
one-kept p x xs t is = ap (λ t. cond t (x ∷ filter p xs) (filter p xs)) is

module _ {K V : Type 0} (text : K → List ℕ) where
  -- the entries whose keys are not below these bytes
  abbrev on-from : List ℕ → List (K × V) → List (K × V)
  on-from x entries = filter (λ entry. is_ge (text_order (text entry.0) x)) entries

  -- from the text of one of them on they are this one and those behind it
  from-here : (before : List (K × V)) (e : K × V) (after : List (K × V)) → Ascend (texts_of text (before ++ e ∷ after)) → on-from (text e.0) (before ++ e ∷ after) ≡ e ∷ after
  from-here [] e after ascend =
      one-kept (λ x. is_ge (text_order (text x.0) (text e.0))) e after true (ap is_ge (order_itself (text e.0)))
      ∙ ap (λ es. e ∷ es) (keep-those (λ x. is_ge (text_order (text x.0) (text e.0))) after
      (All-weaker (λ x. text_order (text e.0) (text x.0) ≡ Less) (λ x. is_ge (text_order (text x.0) (text e.0)) ≡ true) (λ x below. ap is_ge (nat_list_cmp_total.antisymm (text x.0) (text e.0) ∙ ap ordering_reverse below)) after (all-above text e after ascend)))
  from-here (x ∷ before) e after ascend =
      let below = none_below (text x.0) (text e.0) (texts_of text (before ++ e ∷ after)) ascend (image_inside (λ y. text y.0) (before ++ e ∷ after) e (text e.0) refl (Contains-append_right before (e ∷ after) e (0, omega arith, refl))) in
      one-kept (λ y. is_ge (text_order (text y.0) (text e.0))) x (before ++ e ∷ after) false (ap is_ge below) ∙ from-here before e after (ascend_rest (text x.0) (texts_of text (before ++ e ∷ after)) ascend)

  module _ {P : ℕ} (arena : NodeArena K V P) where
    -- how many entries there are from the leaf under this slab key on
    abbrev pub left-at : Option ℕ → ℕ
    left-at None = 0
    left-at (Some key) = option_map_or (λ leaf. length (on-from (text (leaf_key leaf)) (entries_of text arena))) (leaf_at arena key) 0

    pub left-is : (before : List (K × V)) (at : Option ℕ) (after : List (K × V)) → IsSplit text arena before at after → left-at at ≡ length after
    left-is before None after (is, none) = sym (ap length none)
    left-is before (Some key) after (is, (leaf, rest, there, first)) =
        let whole = is ∙ ap (λ es. before ++ es) first in
        ap (λ o. option_map_or (λ leaf. length (on-from (text (leaf_key leaf)) (entries_of text arena))) o 0) there
        ∙ ap (λ es. length (on-from (text (leaf_key leaf)) es)) whole
        ∙ ap length (from-here before (key_and_value leaf) rest (subst (λ es. Ascend (texts_of text es)) whole (are-entries text arena).ascending)) ∙ sym (ap length first)

-- the removal of this key needs a node
abbrev pub key-needs : {K V : Type 0} {P : ℕ} → (K → List ℕ) → NodeArena K V P → K → Type 0
key-needs {K} {V} {P} text arena key = NeedsNode (OpaqueNodePtr K V P) (texts_of text (entries_of text arena)) (text key)

module _ {F K V : Type 0} {P : ℕ} (text : K → List ℕ) (T : F → K → V → Bool → V → F → Type 0) (Q : F → K → V → Type 0) (origin : F) (old : List (K × V)) where
  -- the entries up to this leaf were visited; once the others are visited, in turn, all were
  pub record IsWalking (now : NodeArena K V P) (at : Option ℕ) (f : F) : Type 0 where
    pub kept : List (K × V)
    pub todo : List (K × V)
    pub cut : IsSplit text now kept at todo
    pub callable : CallableOnEachPair T Q f todo
    pub whole : (rest : List (K × V)) → RetainsPairs T f todo rest → RetainsPairs T origin old (kept ++ rest)
    pub stopped : (last : NodeArena K V P) (rest : List (K × V)) → StopsRetaining T (key-needs text last) f todo rest → StopsRetaining T (key-needs text last) origin old (kept ++ rest)

  -- before the first visit
  pub walking-start : (now : NodeArena K V P) (at : Option ℕ) → entries_of text now ≡ old → HoldsFirst now at old → CallableOnEachPair T Q origin old → IsWalking now at origin
  walking-start now at same first callable = record { kept = []; todo = old; cut = (same, first); callable = callable; whole = λ rest turn. turn; stopped = λ last rest turn. turn }

module _ {F K V : Type 0} {P : ℕ} {text : K → List ℕ} {T : F → K → V → Bool → V → F → Type 0} {Q : F → K → V → Type 0} {origin : F} {old : List (K × V)} {now : NodeArena K V P} {at : Option ℕ} {f : F} (is : IsWalking text T Q origin old now at f) where
  -- after the last visit
  pub walking-end : at ≡ None → RetainsPairs T origin old (entries_of text now)
  walking-end no_leaf =
      let none : is.todo ≡ [] = subst (λ at. HoldsFirst now at is.todo) no_leaf is.cut.1 in
      let turn = is.whole [] (subst (λ es. RetainsPairs T f es []) (sym none) refl) in
      subst (RetainsPairs T origin old) (ap (λ es. is.kept ++ es) (sym none) ∙ sym is.cut.0) turn

  -- the walk is at this leaf
  module _ (key : ℕ) (at_is : at ≡ Some key) where
    abbrev pub first-now : HoldsFirst now (Some key) is.todo
    first-now = subst (λ at. HoldsFirst now at is.todo) at_is is.cut.1

    abbrev pub leaf-now : LeafNode K V P
    leaf-now = first-now.0

    abbrev pub entry-now : K × V
    entry-now = key_and_value leaf-now

    abbrev pub rest-now : List (K × V)
    rest-now = first-now.1

    pub cut-now : IsSplit text now is.kept (Some key) (entry-now ∷ rest-now)
    cut-now = (is.cut.0 ∙ ap (λ es. is.kept ++ es) first-now.3, (leaf-now, rest-now, first-now.2, refl))

    callable-now : CallableOnEachPair T Q f (entry-now ∷ rest-now)
    callable-now = subst (CallableOnEachPair T Q f) first-now.3 is.callable

    pub accepted : Q f entry-now.0 entry-now.1
    accepted = callable-now.at [] rest-now f entry-now.0 entry-now.1 refl refl

    module _ (new : NodeArena K V P) (keeps : Bool) (value : V) (f' : F) (step : T f entry-now.0 entry-now.1 keeps value f') where
      abbrev tested : K × V
      tested = (entry-now.0, value)

      -- the entry was visited, and the walk goes on
      pub walking-next : (next : Option ℕ) → IsSplit text new (cond keeps (is.kept ++ tested ∷ []) is.kept) next rest-now → IsWalking text T Q origin old new next f'
      walking-next next cut = record {
        kept = cond keeps (is.kept ++ tested ∷ []) is.kept;
        todo = rest-now;
        cut = cut;
        callable = record { at = λ front back state k v parts folds. callable-now.at (entry-now ∷ front) back state k v (ap (λ es. entry-now ∷ es) parts) (f', (keeps, value, step), folds) };
        whole = λ rest turn.
            subst (RetainsPairs T origin old) (pushed keeps rest) (is.whole (cond keeps (tested ∷ rest) rest)
            (subst (λ es. RetainsPairs T f es (cond keeps (tested ∷ rest) rest)) (sym first-now.3) (keeps, value, f', rest, step, turn, refl)));
        stopped = λ last rest turn.
            subst (StopsRetaining T (key-needs text last) origin old) (pushed keeps rest) (is.stopped last (cond keeps (tested ∷ rest) rest)
            (subst (λ es. StopsRetaining T (key-needs text last) f es (cond keeps (tested ∷ rest) rest)) (sym first-now.3) (keeps, value, f', step, inr (rest, turn, refl))));
      }
        where
          pushed : (b : Bool) (rest : List (K × V)) → is.kept ++ cond b (tested ∷ rest) rest ≡ cond b (is.kept ++ tested ∷ []) is.kept ++ rest
          pushed true rest = sym (append_assoc is.kept (tested ∷ []) rest)
          pushed false rest = refl

      -- the removal was refused
      pub walking-stopped : keeps ≡ false → key-needs text new entry-now.0 → entries_of text new ≡ is.kept ++ tested ∷ rest-now → StopsRetaining T (key-needs text new) origin old (entries_of text new)
      walking-stopped refused needs left =
          let turn : StopsRetaining T (key-needs text new) f (entry-now ∷ rest-now) (tested ∷ rest-now) = (keeps, value, f', step, inl (refused, needs, refl)) in
          subst (StopsRetaining T (key-needs text new) origin old) (sym left) (is.stopped new (tested ∷ rest-now) (subst (λ es. StopsRetaining T (key-needs text new) f es (tested ∷ rest-now)) (sym first-now.3) turn))

    -- fewer entries are left
    pub fewer-left : (new : NodeArena K V P) (front : List (K × V)) (next : Option ℕ) → IsSplit text new front next rest-now → left-at text new next < left-at text now at
    fewer-left new front next cut = omega (arith, left-is text now is.kept (Some key) (entry-now ∷ rest-now) cut-now, left-is text new front next rest-now cut, ap (left-at text now) at_is)
