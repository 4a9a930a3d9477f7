-- Loading: leaves that are linked one after another.
use Rattle.art_tree.proofs.Names.{LeafPtr, ◌≡◌, ◌≢◌, ◌∙◌, ℕ, zero, suc, ◌+◌, ◌-◌, ◌<◌, List, [], ◌∷◌, ◌++◌, length, length-append, map, take, get_or, slice_get, Some, None, inl, inr, refl, sym, ap, subst, arith, append_assoc, Contains, option_and_then, map-append, length-map, take_all, get_or_at, Contains-append_left, Contains-push_cases, Contains-push, slice_get_within, slice_get-get_or, leaf_key, leaf_value, previous_key, next_key, node_kind, opaque_key, slab_key, opaque_pointer, OpaqueNodePtr, LeafNode, NodeArena, Held, HeldInner, HeldLeaf, Nothing, held, held_leaf, Changes, HoldsLeaf, IsKnit, IsUnlinked, SameButLinks, StandsBetween, IsLinkedList, leaf_at, next_at, text_at, text_of_entry, texts_of, leaf_texts, leaf_pointer, HoldEntries, AreLinked, Adds, leaf_place, LeafKind}
use Rattle.art_steps.proofs.SharedLemmas.PrefixLemmas.{take-get}
use Rattle.art_steps.proofs.LoadLemmas.PlacedTrees.{adds-more}
use Rattle.art_links.proofs.HeldNodes.{leaf-of, text-held, kept-at}
use Rattle.art_steps.proofs.SharedLemmas.KeptLists.{IsLinkedList-kept, AreKnit, NameNext}

-- the keys of leaves
pub keys-of : {K V : Type 0} {P : ℕ} (of : List (LeafPtr K V P)) → map opaque_key (map (leaf_pointer {K = K} {V = V} {P = P}) of) ≡ map slab_key of
keys-of [] = refl
keys-of (leaf ∷ of) = ap (λ rest. slab_key leaf ∷ rest) (keys-of of)

module _ {K V : Type 0} {P : ℕ} where
  -- leaves hold entries on where what is held stays
  pub hold-kept : (now new : NodeArena K V P) → ((pointer : OpaqueNodePtr K V P) → held now pointer ≢ Nothing → held new pointer ≡ held now pointer) → (pointers : List (OpaqueNodePtr K V P)) (entries : List (K × V)) → HoldEntries now pointers entries → HoldEntries new pointers entries
  hold-kept now new kept [] [] h = tt
  hold-kept now new kept [] (entry ∷ entries) h = absurd h
  hold-kept now new kept (pointer ∷ pointers) [] h = absurd h
  hold-kept now new kept (pointer ∷ pointers) (entry ∷ entries) h =
      ((h.0.0, kept pointer (subst (λ there. there ≢ Nothing) (sym h.0.1) (λ e. cc)) ∙ h.0.1, h.0.2, h.0.3), hold-kept now new kept pointers entries h.1)

  pub hold-last : (arena : NodeArena K V P) (at : OpaqueNodePtr K V P) (leaf : LeafNode K V P) (entry : K × V) → held arena at ≡ HeldLeaf leaf → leaf_key leaf ≡ entry.0 → leaf_value leaf ≡ entry.1
      → (pointers : List (OpaqueNodePtr K V P)) (entries : List (K × V)) → HoldEntries arena pointers entries → HoldEntries arena (pointers ++ at ∷ []) (entries ++ entry ∷ [])
  hold-last arena at leaf entry is key value [] [] h = ((leaf, is, key, value), tt)
  hold-last arena at leaf entry is key value [] (e ∷ entries) h = absurd h
  hold-last arena at leaf entry is key value (pointer ∷ pointers) [] h = absurd h
  hold-last arena at leaf entry is key value (pointer ∷ pointers) (e ∷ entries) h = (h.0, hold-last arena at leaf entry is key value pointers entries h.1)

  hold-links : (now new : NodeArena K V P) → SameButLinks now new → (of : List (LeafPtr K V P)) (entries : List (K × V)) → HoldEntries now (map leaf_pointer of) entries → HoldEntries new (map leaf_pointer of) entries
  hold-links now new same [] [] h = tt
  hold-links now new same [] (entry ∷ entries) h = absurd h
  hold-links now new same (at ∷ of) [] h = absurd h
  hold-links now new same (at ∷ of) (entry ∷ entries) h =
      let after = same.leaf (slab_key at) h.0.0 (leaf-of (leaf_at now (slab_key at)) h.0.0 h.0.1) in
      ((after.0, ap held_leaf after.1, after.2 ∙ h.0.2, after.3 ∙ h.0.3), hold-links now new same of entries h.1)

  pub hold-count : (arena : NodeArena K V P) (of : List (LeafPtr K V P)) (entries : List (K × V)) → HoldEntries arena (map leaf_pointer of) entries → length of ≡ length entries
  hold-count arena [] [] h = refl
  hold-count arena [] (entry ∷ entries) h = absurd h
  hold-count arena (at ∷ of) [] h = absurd h
  hold-count arena (at ∷ of) (entry ∷ entries) h = ap suc (hold-count arena of entries h.1)

  -- the texts of leaves are those of the entries that they hold
  pub hold-texts : (text : K → List ℕ) (arena : NodeArena K V P) (of : List (LeafPtr K V P)) (entries : List (K × V)) → HoldEntries arena (map leaf_pointer of) entries → leaf_texts text arena of ≡ texts_of text entries
  hold-texts text arena [] [] h = refl
  hold-texts text arena [] (entry ∷ entries) h = absurd h
  hold-texts text arena (at ∷ of) [] h = absurd h
  hold-texts text arena (at ∷ of) (entry ∷ entries) h =
      ap (λ x. x ∷ leaf_texts text arena of) (text-held text arena (slab_key at) h.0.0 h.0.1 ∙ ap text h.0.2) ∙ ap (λ rest. text entry.0 ∷ rest) (hold-texts text arena of entries h.1)

  -- and each of them is held
  pub hold-held : (arena : NodeArena K V P) (of : List (LeafPtr K V P)) (entries : List (K × V)) → HoldEntries arena (map leaf_pointer of) entries → (i : ℕ) (d : LeafPtr K V P) → i < length of → HoldsLeaf arena (slab_key (get_or of i d))
  hold-held arena [] entries h i d lt = absurd (omega arith)
  hold-held arena (at ∷ of) [] h i d lt = absurd h
  hold-held arena (at ∷ of) (entry ∷ entries) h zero d lt = subst (λ there. there ≢ Nothing) (sym h.0.1) (λ e. cc)
  hold-held arena (at ∷ of) (entry ∷ entries) h (suc i) d lt = hold-held arena of entries h.1 i d (omega arith)

  module _ (now new : NodeArena K V P) (same : SameButLinks now new) (this sibling : ℕ) (others : (key : ℕ) → key ≢ this → key ≢ sibling → leaf_at new key ≡ leaf_at now key) where
    stays : (pointer : OpaqueNodePtr K V P) → (opaque_key pointer ≡ this → node_kind pointer ≡ LeafKind → ⊥) → (opaque_key pointer ≡ sibling → node_kind pointer ≡ LeafKind → ⊥) → held new pointer ≡ held now pointer
    stays pointer not_this not_sibling = go (held now pointer) refl
      where
        go : (there : Held (OpaqueNodePtr K V P) (LeafNode K V P)) → held now pointer ≡ there → held new pointer ≡ held now pointer
        go Nothing e = same.nothing pointer e ∙ sym e
        go (HeldInner node) e = same.inner pointer node e ∙ sym e
        go (HeldLeaf leaf) e =
            let place = leaf_place now pointer leaf e in
            let kind = ap node_kind (sym place) in
            ap (held new) (sym place) ∙ ap held_leaf (others (opaque_key pointer) (λ k. not_this k kind) (λ k. not_sibling k kind)) ∙ ap (held now) place

    goes-on : (pointer : OpaqueNodePtr K V P) → held now pointer ≢ Nothing → held new pointer ≢ Nothing
    goes-on pointer was = go (held now pointer) refl
      where
        go : (there : Held (OpaqueNodePtr K V P) (LeafNode K V P)) → held now pointer ≡ there → held new pointer ≢ Nothing
        go Nothing e = absurd (was e)
        go (HeldInner node) e = subst (λ x. x ≢ Nothing) (sym (same.inner pointer node e)) (λ none. cc)
        go (HeldLeaf leaf) e =
            let place = leaf_place now pointer leaf e in
            let after = same.leaf (opaque_key pointer) leaf (leaf-of (leaf_at now (opaque_key pointer)) leaf (ap (held now) place ∙ e)) in
            subst (λ x. x ≢ Nothing) (sym (ap (held new) (sym place) ∙ ap held_leaf after.1)) (λ none. cc)

    -- links change only in new leaves
    adds-links : (old : NodeArena K V P) (xs : List (OpaqueNodePtr K V P)) → Contains xs (opaque_pointer LeafKind this) → Contains xs (opaque_pointer LeafKind sibling) → Adds old now xs → Adds old new xs
    adds-links old xs has_this has_sibling a =
        let apart : (pointer : OpaqueNodePtr K V P) → held old pointer ≢ Nothing → (key : ℕ) → Contains xs (opaque_pointer LeafKind key) → opaque_key pointer ≡ key → node_kind pointer ≡ LeafKind → ⊥ =
        λ pointer was key has is_key is_kind.
        let at : opaque_pointer LeafKind key ≡ pointer = λ i. record { node_type = (sym is_kind) i; key = (sym is_key) i; leaf = record {} } in
        was (ap (held old) (sym at) ∙ a.were_free (opaque_pointer LeafKind key) has) in
        record {
          kept = λ pointer was. stays pointer (apart pointer was this has_this) (apart pointer was sibling has_sibling) ∙ a.kept pointer was;
          were_free = a.were_free;
          are_held = λ pointer inside. goes-on pointer (a.are_held pointer inside);
          no_others = λ pointer free is_held. a.no_others pointer free (λ none. is_held (same.nothing pointer none));
        }

pub last-split : {A : Type 0} (xs : List A) (x : A) → slice_get xs (length xs - 1) ≡ Some x → xs ≡ take (length xs - 1) xs ++ x ∷ []
last-split xs x e =
    let within = slice_get_within xs (length xs - 1) x e in
    sym (take_all (length xs - 1 + 1) xs (omega (arith, within))) ∙ take-get xs (length xs - 1) x e

module _ {K V : Type 0} {P : ℕ} where
  -- a new leaf holds the next entry, and is not linked yet
  pub record IsAllocated (old new : NodeArena K V P) (done : List (K × V)) (before : List (LeafPtr K V P)) (entry : K × V) (this : LeafPtr K V P) : Type 0 where
    pub entries : HoldEntries new (map leaf_pointer (before ++ this ∷ [])) (done ++ entry ∷ [])
    pub is_linked : IsLinkedList new (map slab_key before)
    pub adds : Adds old new (map leaf_pointer (before ++ this ∷ []))
    pub leaf : LeafNode K V P
    pub at_key : leaf_at new (slab_key this) ≡ Some leaf
    pub no_previous : previous_key leaf ≡ None
    pub no_next : next_key leaf ≡ None
    pub apart : (front : List (LeafPtr K V P)) (sibling : LeafPtr K V P) → before ≡ front ++ sibling ∷ [] → slab_key this ≢ slab_key sibling

  pub allocated : (old now new : NodeArena K V P) (done : List (K × V)) (before : List (LeafPtr K V P)) (entry : K × V) (this : LeafPtr K V P) (leaf : LeafNode K V P) → AreLinked old now done before
      → held now (leaf_pointer this) ≡ Nothing → Changes now new (leaf_pointer this) (HeldLeaf leaf) → leaf_key leaf ≡ entry.0 → leaf_value leaf ≡ entry.1 → previous_key leaf ≡ None → next_key leaf ≡ None → IsAllocated old new done before entry this
  allocated old now new done before entry this leaf l free changes key value no_previous no_next =
      let kept = kept-at now new (leaf_pointer this) (HeldLeaf leaf) free changes in
      let pointers = map-append leaf_pointer before (this ∷ []) in
      let xs = map leaf_pointer before in
      let ys = map leaf_pointer (before ++ this ∷ []) in
      record {
        entries = subst (λ p. HoldEntries new p (done ++ entry ∷ [])) (sym pointers) (hold-last new (leaf_pointer this) leaf entry changes.changed key value xs done (hold-kept now new kept xs done l.hold));
        is_linked = IsLinkedList-kept now new kept (map slab_key before) l.is_linked;
        adds = adds-more old now new (leaf_pointer this) (HeldLeaf leaf) xs ys l.adds free changes (λ e. cc)
            (λ pointer inside. elim (Contains-push_cases xs (leaf_pointer this) pointer (subst (λ z. Contains z pointer) pointers inside)) [ inl earlier ↦ inr earlier | inr same ↦ inl (sym same) ])
            (subst (λ z. Contains z (leaf_pointer this)) (sym pointers) (Contains-push xs (leaf_pointer this)))
            (λ pointer earlier. subst (λ z. Contains z pointer) (sym pointers) (Contains-append_left xs (leaf_pointer this ∷ []) pointer earlier));
        leaf = leaf;
        at_key = leaf-of (leaf_at new (slab_key this)) leaf changes.changed;
        no_previous = no_previous;
        no_next = no_next;
        apart = λ front sibling split same.
            let inside : Contains xs (leaf_pointer sibling) = subst (λ z. Contains z (leaf_pointer sibling)) (sym (ap (map leaf_pointer) split ∙ map-append leaf_pointer front (sibling ∷ []))) (Contains-push (map leaf_pointer front) (leaf_pointer sibling)) in
            l.adds.are_held (leaf_pointer sibling) inside (ap (λ k. held now (opaque_pointer LeafKind k)) (sym same) ∙ free);
      }

  -- the first leaf is a list of its own
  pub first-linked : (old new : NodeArena K V P) (done : List (K × V)) (before : List (LeafPtr K V P)) (entry : K × V) (this : LeafPtr K V P) → before ≡ [] → IsAllocated old new done before entry this → AreLinked old new (done ++ entry ∷ []) (before ++ this ∷ [])
  first-linked old new done before entry this none a = record {
    hold = a.entries;
    is_linked = subst (λ z. IsLinkedList new (map slab_key (z ++ this ∷ []))) (sym none) (record { distinct = ((λ k d lt. absurd (omega (arith, lt))), tt); is_linked = ((a.leaf, a.at_key, a.no_previous, a.no_next), tt) });
    adds = a.adds;
  }

  -- a leaf that is linked after the last one
  pub next-linked : (old now new : NodeArena K V P) (done : List (K × V)) (before front : List (LeafPtr K V P)) (entry : K × V) (this sibling : LeafPtr K V P) → before ≡ front ++ sibling ∷ [] → NameNext now → IsAllocated old now done before entry this
      → SameButLinks now new → StandsBetween now new (Some (slab_key sibling)) (slab_key this) (next_at now (slab_key sibling))
      → ((first last : List ℕ) → IsLinkedList now (first ++ slab_key sibling ∷ last) → IsLinkedList new (first ++ slab_key sibling ∷ slab_key this ∷ last)) → AreLinked old new (done ++ entry ∷ []) (before ++ this ∷ [])
  next-linked old now new done before front entry this sibling split name_next a same placed is_list =
      let keys = ap (map slab_key) split ∙ map-append slab_key front (sibling ∷ []) in
      let was : IsLinkedList now (map slab_key front ++ slab_key sibling ∷ []) = subst (IsLinkedList now) keys a.is_linked in
      let none : next_at now (slab_key sibling) ≡ None = name_next (map slab_key front) [] (slab_key sibling) was in
      let now_keys : map slab_key (before ++ this ∷ []) ≡ map slab_key front ++ slab_key sibling ∷ slab_key this ∷ [] =
      map-append slab_key before (this ∷ []) ∙ ap (λ z. z ++ slab_key this ∷ []) keys ∙ append_assoc (map slab_key front) (slab_key sibling ∷ []) (slab_key this ∷ []) in
      let xs = map leaf_pointer (before ++ this ∷ []) in
      let pointers = map-append leaf_pointer before (this ∷ []) in
      let has_this : Contains xs (leaf_pointer this) = subst (λ z. Contains z (leaf_pointer this)) (sym pointers) (Contains-push (map leaf_pointer before) (leaf_pointer this)) in
      let has_sibling : Contains xs (leaf_pointer sibling) = subst (λ z. Contains z (leaf_pointer sibling)) (sym pointers) (Contains-append_left (map leaf_pointer before) (leaf_pointer this ∷ []) (leaf_pointer sibling)
      (subst (λ z. Contains z (leaf_pointer sibling)) (sym (ap (map leaf_pointer) split ∙ map-append leaf_pointer front (sibling ∷ []))) (Contains-push (map leaf_pointer front) (leaf_pointer sibling)))) in
      record {
        hold = hold-links now new same (before ++ this ∷ []) (done ++ entry ∷ []) a.entries;
        is_linked = subst (IsLinkedList new) (sym now_keys) (is_list (map slab_key front) [] was);
        adds = adds-links now new same (slab_key this) (slab_key sibling) (λ key not_this not_sibling. placed.other_leaves key not_this (λ e. not_sibling (let back : slab_key sibling ≡ key = cc in sym back)) (λ e. (let never : None ≡ Some key = sym none ∙ e in cc))) old xs has_this has_sibling a.adds;
      }

  -- what linking it asks
  pub unlinked : (old now : NodeArena K V P) (done : List (K × V)) (before : List (LeafPtr K V P)) (entry : K × V) (this : LeafPtr K V P) → IsAllocated old now done before entry this → HoldsLeaf now (slab_key this) × IsUnlinked now (slab_key this)
  unlinked old now done before entry this a =
      (subst (λ x. x ≢ Nothing) (sym (ap held_leaf a.at_key)) (λ e. cc), (ap (option_and_then previous_key) a.at_key ∙ a.no_previous, ap (option_and_then next_key) a.at_key ∙ a.no_next))

  pub sibling-knit : (old now : NodeArena K V P) (done : List (K × V)) (before front : List (LeafPtr K V P)) (entry : K × V) (this sibling : LeafPtr K V P) → before ≡ front ++ sibling ∷ [] → AreKnit now → IsAllocated old now done before entry this → IsKnit now (slab_key sibling)
  sibling-knit old now done before front entry this sibling split knit a = knit (map slab_key front) [] (slab_key sibling) (subst (IsLinkedList now) (ap (map slab_key) split ∙ map-append slab_key front (sibling ∷ [])) a.is_linked)

  -- the texts of the last two leaves are neighbours among those of the entries
  pub two-texts : (text : K → List ℕ) (old now : NodeArena K V P) (all done left : List (K × V)) (before front : List (LeafPtr K V P)) (entry : K × V) (this sibling : LeafPtr K V P) → before ≡ front ++ sibling ∷ [] → all ≡ (done ++ entry ∷ []) ++ left → IsAllocated old now done before entry this
      → (length front + 1 < length (texts_of text all)) × (text_of_entry (texts_of text all) (length front) ≡ text_at text now (slab_key sibling)) × (text_of_entry (texts_of text all) (length front + 1) ≡ text_at text now (slab_key this))
  two-texts text old now all done left before front entry this sibling split whole a =
      let f : LeafPtr K V P → List ℕ = λ leaf. text_at text now (slab_key leaf) in
      let two : before ++ this ∷ [] ≡ front ++ sibling ∷ this ∷ [] = ap (λ z. z ++ this ∷ []) split ∙ append_assoc front (sibling ∷ []) (this ∷ []) in
      let texts : texts_of text all ≡ (map f front ++ f sibling ∷ f this ∷ []) ++ texts_of text left =
      ap (texts_of text) whole ∙ map-append (λ (e : K × V). text e.0) (done ++ entry ∷ []) left ∙ ap (λ z. z ++ texts_of text left) (sym (hold-texts text now (before ++ this ∷ []) (done ++ entry ∷ []) a.entries) ∙ ap (map f) two ∙ map-append f front (sibling ∷ this ∷ [])) in
      let long = length-map front f in
      let tail : map f front ++ f sibling ∷ f this ∷ [] ≡ (map f front ++ f sibling ∷ []) ++ f this ∷ [] = sym (append_assoc (map f front) (f sibling ∷ []) (f this ∷ [])) in
      let size = ap length texts ∙ length-append (map f front ++ f sibling ∷ f this ∷ []) (texts_of text left) in
      let size_two = length-append (map f front) (f sibling ∷ f this ∷ []) in (
        omega (arith, size, size_two, long),
        ap (λ t. text_of_entry t (length front)) (texts ∙ append_assoc (map f front) (f sibling ∷ f this ∷ []) (texts_of text left)) ∙ get_or_at (map f front) (f sibling) (f this ∷ texts_of text left) [] (length front) long,
        ap (λ t. text_of_entry t (length front + 1)) (texts ∙ ap (λ z. z ++ texts_of text left) tail ∙ append_assoc (map f front ++ f sibling ∷ []) (f this ∷ []) (texts_of text left)) ∙ get_or_at (map f front ++ f sibling ∷ []) (f this) (texts_of text left) [] (length front + 1) (omega (arith, length-append (map f front) (f sibling ∷ []), long)),
      )

-- the leaves so far hold the entries so far
pub record IsLinking {K V : Type 0} {P : ℕ} (old now : NodeArena K V P) (all left : List (K × V)) (leaves : List (LeafPtr K V P)) : Type 0 where
  pub done : List (K × V)
  pub split : all ≡ done ++ left
  pub linked : AreLinked old now done leaves

-- before the first entry
pub none-linked : {K V : Type 0} {P : ℕ} (old : NodeArena K V P) (leaves : List (LeafPtr K V P)) → leaves ≡ [] → AreLinked old old [] leaves
none-linked old leaves none = subst (AreLinked old old []) (sym none) (record {
  hold = tt;
  is_linked = record { distinct = tt; is_linked = tt };
  adds = record {
    kept = λ pointer was. refl;
    were_free = λ pointer inside. absurd (omega (arith, inside.1));
    are_held = λ pointer inside. absurd (omega (arith, inside.1));
    no_others = λ pointer free is_held. absurd (is_held free);
  };
})

pub none-left : {A : Type 0} (xs : List A) → slice_get xs (length xs - 1) ≡ None → xs ≡ []
none-left [] e = refl
none-left (x ∷ xs) e = absurd (let some = slice_get-get_or (x ∷ xs) (length (x ∷ xs) - 1) x (omega arith) in cc)
