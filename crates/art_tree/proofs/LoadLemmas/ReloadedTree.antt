-- Compaction: the leaves of a tree one after another, and the tree of the same entries.
use Rattle.art_tree.proofs.Names.{LeafPtr, next-member, knit-member, texts-apart, texts-ascend, ◌≡◌, ◌≢◌, ◌∙◌, ℕ, zero, suc, ◌+◌, ◌<◌, ◌≤◌, ◌^◌, List, [], ◌∷◌, ◌++◌, length, map, take, get_or, slice_get, All, AllPairs, Contains, Option, Some, None, refl, sym, ap, subst, inl, inr, arith, length-append, append_assoc, append-nil, Less, Greater, cases_lt, le-ltb, eqb_tells, get_or-map, length-map, map-append, take_all, take_more, All-nil, All-cons, All-contains, Contains-append_right, same_Some, IsPrefixOf, text_order, leaf_key, leaf_value, opaque_key, opaque_pointer, slab_key, LeafNode, OpaqueNodePtr, NodeArena, Changes, HeldLeaf, Nothing, held, leaf_count, IsAtEnd, AreDistinct, HoldsLeaf, IsLinkedList, next_at, text_at, Tree, leaves, texts, First, IsAlone, HasEntry, IsEntry, SameEntries, entry_at, HoldEntries, IsLoaded, leaf_pointers, AreLoadable, Forks, leaf_texts, texts_of, AreLeavesOf, IsReloaded, leaf_pointer, leaf_place, inside_image, LeafKind}
use Rattle.art_tree.proofs.SharedLemmas.EntryCounts.{list-fit}
use Rattle.art_tree.proofs.LoadLemmas.LeafLists.{hold-last, hold-texts, keys-of}
use Rattle.art_steps.proofs.LoadLemmas.RefusalLemmas.{fork-later}
use Rattle.art_steps.proofs.SharedLemmas.DictionaryLemmas.{AreApart, alone-loaded, entry-held, held-entry, leaf-held-in, loaded-entry, loaded-text, text-of-entry}
use Rattle.art_steps.proofs.PlaceLemmas.WayPlaces.{some-text}
use Rattle.art_links.proofs.HeldNodes.{text-held}

-- a text that is less than another, and no prefix of it, differs from it at some byte
forks-apart : (a b : List ℕ) → text_order a b ≡ Less → (IsPrefixOf a b → ⊥) → Forks a b
forks-apart [] b less apart = absurd (apart (b, refl))
forks-apart (x ∷ a) [] less apart = absurd (cc)
forks-apart (x ∷ a) (y ∷ b) less apart = elim (cases_lt x y) [
  | inl below ↦ (0, record { in_first = omega arith; in_second = omega arith; shared = refl; less = below })
  | inr past ↦ elim (eqb_tells x y) [
    | inl same ↦
        let less_later : text_order a b ≡ Less = rw (le-ltb x y past, same.0) at less in
        fork-later x y a b same.1 (forks-apart a b less_later (λ (rest, is). apart (rest, ap (λ n. n ∷ b) (sym same.1) ∙ ap (λ z. x ∷ z) is)))
    | inr differ ↦ let wrong : Greater ≡ Less = rw (le-ltb x y past, differ.0) at less in absurd (cc)
  ]
]

-- short texts that ascend, none a prefix of another, can be loaded
pub loadable-texts : (xs : List (List ℕ)) → All (λ x. length x < 2 ^ 32) xs → AllPairs (λ a b. text_order a b ≡ Less) xs → AreApart xs → AreLoadable xs
loadable-texts xs short ascend apart = record {
  short = λ i within. short i [] within;
  fork = λ i within. forks-apart _ _ (ascend i (i + 1) [] (omega arith) within) (apart i (i + 1) [] (omega arith) within).0;
}

pub distinct-at : (xs : List ℕ) (i k d : ℕ) → AreDistinct xs → i < k → k < length xs → get_or xs k d ≢ get_or xs i d
distinct-at [] i k d distinct before within = absurd (omega (arith, within))
distinct-at (x ∷ xs) i zero d distinct before within = absurd (omega (arith, before))
distinct-at (x ∷ xs) zero (suc k) d distinct before within = distinct.0 k d (omega (arith, within))
distinct-at (x ∷ xs) (suc i) (suc k) d distinct before within = distinct-at xs i k d distinct.1 (omega (arith, before)) (omega (arith, within))

at-first : (key : ℕ) (rest : List ℕ) → Some key ≡ slice_get rest 0 → (others : List ℕ) × (rest ≡ key ∷ others)
at-first key [] is = absurd (cc)
at-first key (k ∷ others) is = (others, ap (λ x. x ∷ others) (same_Some k key (sym is)))

none-first : (rest : List ℕ) → None ≡ slice_get rest 0 → rest ≡ []
none-first [] is = refl
none-first (k ∷ others) is = absurd (cc)

module _ {K V : Type 0} {P : ℕ} where
  -- pointers to leaves follow from their keys
  from-keys : (pointers : List (OpaqueNodePtr K V P)) (of : List (LeafPtr K V P)) → ((p : OpaqueNodePtr K V P) → Contains pointers p → opaque_pointer LeafKind (opaque_key p) ≡ p) → map opaque_key pointers ≡ map slab_key of → pointers ≡ map leaf_pointer of
  from-keys [] [] each same = refl
  from-keys [] (o ∷ of) each same = absurd (cc)
  from-keys (p ∷ pointers) [] each same = absurd (cc)
  from-keys (p ∷ pointers) (o ∷ of) each same =
      let first : opaque_key p ≡ slab_key o = cc in
      let later : map opaque_key pointers ≡ map slab_key of = cc in
      let head : p ≡ leaf_pointer o = sym (each p (0, omega arith, refl)) ∙ ap (opaque_pointer LeafKind) first in
      ap (λ q. q ∷ pointers) head ∙ ap (λ rest. leaf_pointer o ∷ rest) (from-keys pointers of (λ q inside. each q (Contains-append_right (p ∷ []) pointers q inside)) later)

module _ {K V : Type 0} {P : ℕ} (text : K → List ℕ) (arena : NodeArena K V P) (root : OpaqueNodePtr K V P) where
  -- these are the first leaves of a tree, and the next one is under this key, if there is one
  pub record IsGathered (of : List (LeafPtr K V P)) (at : Option ℕ) : Type 0 where
    pub tree : Tree (OpaqueNodePtr K V P)
    pub alone : IsAlone text arena root tree
    pub rest : List ℕ
    pub split : map opaque_key (leaf_pointers tree) ≡ map slab_key of ++ rest
    pub here : at ≡ slice_get rest 0

  pub gathered-start : (tree : Tree (OpaqueNodePtr K V P)) → IsAlone text arena root tree → (leaf : LeafPtr K V P) → IsAtEnd First (leaves tree) (leaf_pointer leaf) → IsGathered [] (Some (slab_key leaf))
  gathered-start tree alone leaf (x, others, is) = record {
    tree = tree;
    alone = alone;
    rest = map opaque_key (leaf_pointers tree);
    split = refl;
    here = sym (ap (λ (all : List (OpaqueNodePtr K V P × List ℕ)). slice_get (map opaque_key (map (λ pair. pair.0) all)) 0) is);
  }

  pub gathered-next : (of : List (LeafPtr K V P)) (leaf : LeafPtr K V P) (next : Option ℕ) → IsGathered of (Some (slab_key leaf)) → next ≡ next_at arena (slab_key leaf) → IsGathered (of ++ leaf ∷ []) next
  gathered-next of leaf next g is =
      let first = at-first (slab_key leaf) g.rest g.here in
      let whole : map opaque_key (leaf_pointers g.tree) ≡ map slab_key of ++ slab_key leaf ∷ first.0 = g.split ∙ ap (λ rest. map slab_key of ++ rest) first.1 in
      record {
        tree = g.tree;
        alone = g.alone;
        rest = first.0;
        split = whole ∙ sym (append_assoc (map slab_key of) (slab_key leaf ∷ []) first.0) ∙ ap (λ keys. keys ++ first.0) (sym (map-append slab_key of (leaf ∷ [])));
        here = is ∙ next-member arena (map slab_key of) first.0 (slab_key leaf) (subst (IsLinkedList arena) whole g.alone.is_linked);
      }

  pub gathered-all : (of : List (LeafPtr K V P)) → IsGathered of None → AreLeavesOf text arena root of
  gathered-all of g =
      let keys : map opaque_key (leaf_pointers g.tree) ≡ map slab_key of = g.split ∙ ap (λ rest. map slab_key of ++ rest) (none-first g.rest g.here) ∙ append-nil (map slab_key of) in
      record {
        tree = g.tree;
        alone = g.alone;
        in_order = from-keys (leaf_pointers g.tree) of (λ p inside.
            let pair = inside_image (λ (leaf : OpaqueNodePtr K V P × List ℕ). leaf.0) (leaves g.tree) p inside in
            let there = leaf-held-in text arena g.tree g.alone.is_tree.stands pair.0.0 pair.0.1 pair.1 in
            leaf_place arena p there.0 (ap (held arena) (sym pair.2) ∙ there.1)) keys;
      }

  along : (pairs : List (OpaqueNodePtr K V P × List ℕ)) (of : List (LeafPtr K V P)) → ((p : OpaqueNodePtr K V P) (x : List ℕ) → Contains pairs (p, x) → (leaf : LeafNode K V P) × (held arena p ≡ HeldLeaf leaf) × (text (leaf_key leaf) ≡ x)) → map (λ pair. pair.0) pairs ≡ map leaf_pointer of
      → (leaf_texts text arena of ≡ map (λ pair. pair.1) pairs) × All (λ leaf. HoldsLeaf arena (slab_key leaf)) of
  along [] [] each same = (refl, All-nil (λ leaf. HoldsLeaf arena (slab_key leaf)))
  along [] (o ∷ of) each same = absurd (cc)
  along (pair ∷ pairs) [] each same = absurd (cc)
  along (pair ∷ pairs) (o ∷ of) each same =
      let head : pair.0 ≡ leaf_pointer o = cc in
      let tail : map (λ (pair : OpaqueNodePtr K V P × List ℕ). pair.0) pairs ≡ map leaf_pointer of = cc in
      let there = each pair.0 pair.1 (0, omega arith, refl) in
      let at : held arena (leaf_pointer o) ≡ HeldLeaf there.0 = ap (held arena) (sym head) ∙ there.1 in
      let rest = along pairs of (λ q z inside. each q z (Contains-append_right (pair ∷ []) pairs (q, z) inside)) tail in (
        ap (λ t. t ∷ leaf_texts text arena of) (text-held text arena (slab_key o) there.0 at ∙ there.2) ∙ ap (λ ts. pair.1 ∷ ts) rest.0,
        All-cons (λ leaf. HoldsLeaf arena (slab_key leaf)) o of (subst (λ h. h ≢ Nothing) (sym at) (λ e. cc)) rest.1,
      )

-- the next leaf is held, and there are more leaves than those so far
module _ {K V : Type 0} {P : ℕ} {text : K → List ℕ} {arena : NodeArena K V P} {root : OpaqueNodePtr K V P} {of : List (LeafPtr K V P)} {key : ℕ} (g : IsGathered text arena root of (Some key)) where
  next-keys : (others : List ℕ) × (IsLinkedList arena (map slab_key of ++ key ∷ others))
  next-keys =
      let first = at-first key g.rest g.here in
      (first.0, subst (IsLinkedList arena) (g.split ∙ ap (λ rest. map slab_key of ++ rest) first.1) g.alone.is_linked)

  pub gathered-held : HoldsLeaf arena key
  gathered-held = (knit-member arena (map slab_key of) next-keys.0 key next-keys.1).held

  pub gathered-fits : length of < leaf_count arena
  gathered-fits = omega (arith, list-fit arena _ next-keys.1, length-append (map slab_key of) (key ∷ next-keys.0), length-map of (λ (leaf : LeafPtr K V P). slab_key leaf))

-- the leaves of a tree
module _ {K V : Type 0} {P : ℕ} {text : K → List ℕ} {arena : NodeArena K V P} {root : OpaqueNodePtr K V P} {of : List (LeafPtr K V P)} (is : AreLeavesOf text arena root of) where
  both : (leaf_texts text arena of ≡ texts is.tree) × All (λ leaf. HoldsLeaf arena (slab_key leaf)) of
  both = along text arena root (leaves is.tree) of (leaf-held-in text arena is.tree is.alone.is_tree.stands) is.in_order

  pub leaves-held : All (λ leaf. HoldsLeaf arena (slab_key leaf)) of
  leaves-held = both.1

  pub leaves-distinct : AreDistinct (map slab_key of)
  leaves-distinct = subst AreDistinct (ap (map opaque_key) is.in_order ∙ keys-of of) is.alone.is_linked.distinct

  pub leaves-some : 0 < length of
  leaves-some =
      let one = some-text [] is.tree is.alone.is_tree.sound in
      omega (arith, one.inside.1, ap length both.0, length-map of (λ leaf. text_at text arena (slab_key leaf)))

  -- their texts can be loaded
  pub leaves-loadable : AreLoadable (leaf_texts text arena of)
  leaves-loadable = subst AreLoadable (sym both.0) (loadable-texts (texts is.tree) is.alone.short (texts-ascend [] is.tree is.alone.is_tree.sound) (texts-apart [] is.tree is.alone.is_tree.sound))

module _ {K V : Type 0} {P : ℕ} (old : NodeArena K V P) (of : List (LeafPtr K V P)) where
  -- the entries of the first leaves were taken out of an arena, and the other leaves are still there
  pub record IsTaking (now : NodeArena K V P) (count : ℕ) (entries : List (K × V)) : Type 0 where
    pub hold : HoldEntries old (map leaf_pointer (take count of)) entries
    pub long : length entries ≡ count
    pub kept : (k : ℕ) (d : LeafPtr K V P) → count ≤ k → k < length of → held now (leaf_pointer (get_or of k d)) ≡ held old (leaf_pointer (get_or of k d))

  pub none-taken : (entries : List (K × V)) → entries ≡ [] → IsTaking old 0 entries
  none-taken entries none = record {
    hold = subst (HoldEntries old []) (sym none) tt;
    long = ap length none;
    kept = λ k d past within. refl;
  }

  -- one more entry is taken
  pub next-taken : (now new : NodeArena K V P) (count : ℕ) (entries : List (K × V)) (at : LeafPtr K V P) (leaf : LeafNode K V P) (entry : K × V) → AreDistinct (map slab_key of) → IsTaking now count entries → count < length of → get_or of count at ≡ at
      → held now (leaf_pointer at) ≡ HeldLeaf leaf → Changes now new (leaf_pointer at) Nothing → entry.0 ≡ leaf_key leaf → entry.1 ≡ leaf_value leaf → IsTaking new (count + 1) (entries ++ entry ∷ [])
  next-taken now new count entries at leaf entry distinct t within is there changes key value =
      let was : held old (leaf_pointer at) ≡ HeldLeaf leaf = ap (λ (p : LeafPtr K V P). held old (leaf_pointer p)) (sym is) ∙ sym (t.kept count at (omega arith) within) ∙ ap (λ (p : LeafPtr K V P). held now (leaf_pointer p)) is ∙ there in
      let front : take (count + 1) of ≡ take count of ++ at ∷ [] = take_more of count at within ∙ ap (λ p. take count of ++ p ∷ []) is in
      record {
        hold = subst (λ p. HoldEntries old p (entries ++ entry ∷ [])) (sym (ap (map leaf_pointer) front ∙ map-append leaf_pointer (take count of) (at ∷ []))) (hold-last old (leaf_pointer at) leaf entry was (sym key) (sym value) (map leaf_pointer (take count of)) entries t.hold);
        long = omega (arith, length-append entries (entry ∷ []), t.long);
        kept = λ k d past inside.
            let other : slab_key (get_or of k d) ≢ slab_key at = λ same.
            distinct-at (map slab_key of) count k 0 distinct (omega (arith, past)) (omega (arith, inside, length-map of (λ (leaf : LeafPtr K V P). slab_key leaf)))
            (get_or-map slab_key of k d 0 inside ∙ same ∙ ap slab_key (sym is) ∙ sym (get_or-map slab_key of count at 0 within)) in
            changes.others (leaf_pointer (get_or of k d)) (λ same. other (ap opaque_key same)) ∙ t.kept k d (omega (arith, past)) inside;
      }

  pub all-taken : (now : NodeArena K V P) (entries : List (K × V)) (count : ℕ) → length of ≤ count → IsTaking now count entries → HoldEntries old (map leaf_pointer of) entries
  all-taken now entries count past t = subst (λ p. HoldEntries old (map leaf_pointer p) entries) (take_all count of past) t.hold

-- arenas with the same list of entries have the same entries
same-lists : {K V : Type 0} {P : ℕ} (text : K → List ℕ) (a b : NodeArena K V P) (entries : List (K × V)) → All (IsEntry text a) entries → ((x : List ℕ) → HasEntry text a x → Contains (texts_of text entries) x)
    → All (IsEntry text b) entries → ((x : List ℕ) → HasEntry text b x → Contains (texts_of text entries) x) → SameEntries text a b
same-lists {K} {V} text a b entries in_a all_a in_b all_b x = by_new (entry_at text b x) refl
  where
    shared : Contains (texts_of text entries) x → entry_at text b x ≡ entry_at text a x
    shared inside =
        let from = inside_image (λ (e : K × V). text e.0) entries x inside in
        let first = All-contains (IsEntry text a) entries from.0 in_a from.1 in
        let second = All-contains (IsEntry text b) entries from.0 in_b from.1 in
        ap (entry_at text b) (sym from.2) ∙ second ∙ sym first ∙ ap (entry_at text a) from.2

    by_old : (o : Option (K × V)) → entry_at text a x ≡ o → entry_at text b x ≡ None → entry_at text b x ≡ entry_at text a x
    by_old None old new = new ∙ sym old
    by_old (Some e) old new = shared (all_a x (λ none. let wrong : Some e ≡ None = sym old ∙ none in absurd (cc)))

    by_new : (o : Option (K × V)) → entry_at text b x ≡ o → entry_at text b x ≡ entry_at text a x
    by_new None new = by_old (entry_at text a x) refl new
    by_new (Some e) new = shared (all_b x (λ none. let wrong : Some e ≡ None = sym new ∙ none in absurd (cc)))

module _ {K V : Type 0} {P : ℕ} {text : K → List ℕ} {old : NodeArena K V P} {root : OpaqueNodePtr K V P} {of : List (LeafPtr K V P)} (is : AreLeavesOf text old root of) (entries : List (K × V)) (hold : HoldEntries old (map leaf_pointer of) entries) where
  entry-texts : texts_of text entries ≡ texts is.tree
  entry-texts = sym (hold-texts text old of entries hold) ∙ (both is).0

  -- the entries of the leaves are those of the arena
  entries-in : All (IsEntry text old) entries
  entries-in = λ k d inside.
      let one = entry-held text old (map leaf_pointer of) entries hold k d inside in
      ap (λ key. entry_at text old (text key)) (sym one.key) ∙ held-entry text old root is.tree is.alone (texts-apart [] is.tree is.alone.is_tree.sound) one.pointer one.leaf one.is_held ∙ ap Some (λ i. (one.key i, one.value i))

  -- the tree that is loaded of the entries has the same ones
  pub reloaded : (empty new : NodeArena K V P) → ((pointer : OpaqueNodePtr K V P) → held empty pointer ≡ Nothing) → (now : OpaqueNodePtr K V P) (tree : Tree (OpaqueNodePtr K V P)) → IsLoaded text empty new entries now tree → IsReloaded text old new now
  reloaded empty new free now tree loaded =
      let short : All (λ x. length x < 2 ^ 32) (texts_of text entries) = subst (All (λ x. length x < 2 ^ 32)) (sym entry-texts) is.alone.short in
      record {
        art = (tree, alone-loaded text new empty free entries now tree loaded short);
        same = same-lists text old new entries entries-in (λ x some. subst (λ xs. Contains xs x) (sym entry-texts) (text-of-entry text old root is.tree is.alone x some))
            (loaded-entry text new empty free entries now tree loaded short (texts-apart [] tree loaded.is_tree.sound)) (loaded-text text new empty free entries now tree loaded short);
      }
