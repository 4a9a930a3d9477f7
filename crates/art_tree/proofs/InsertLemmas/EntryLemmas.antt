-- Insertion: a new text and the entries that are there.
use Rattle.art_tree.proofs.Names.{LeafPtr, ◌≡◌, ◌≢◌, ◌⊎◌, ◌∙◌, ℕ, suc, ◌<◌, ◌^◌, List, [], ◌∷◌, ◌++◌, map, length, take, Contains, Option, Some, None, Result, Ok, Err, IfOk, IfErr, OnOk, OnErr, refl, sym, ap, subst, inl, inr, arith, append-nil, cases_eq, eq-eqb, ne_eqb, Contains-append_right, Contains-append_cases, IsPrefixOf, NodeType, child_at, OpaqueNodePtr, NodeArena, Nothing, capacity, held, SameNodes, SameRoom, Tree, Leaf, Branches, NoBranch, Branch, branch_roots, root_of, leaves, branch_leaves, texts, IsSound, AreSound, IsWellFormed, IsAlone, IsArt, Context, plug, path_to, leaves_before, leaves_after, entry_at, HasEntry, IsProperPrefixOf, Clashes, SameEntries, HoldsEntry, AddsEntry, ClashesIn, InsertsNew, IsEntered, IsRefused, IsSpot, LacksChild, Parts, present_leaf, reach, LacksRoomToInsert, leaf_pointer, OutOfMemory, Mismatch, Spot, prefix-on, by_option, the_one, InsertFault, Place}
use Rattle.art_steps.specs.declared.faults.InsertRefusal.{InsertRefusal}
use Rattle.art_steps.specs.declared.place.Place.TheVariants as places
use Rattle.art_steps.proofs.SharedLemmas.DictionaryLemmas.{AreApart, after-first, empty-entry, held-entry, leaf-held-in, leaf-of-entry, leaf-with}
use Rattle.art_steps.proofs.SharedLemmas.ExchangedSubtree.{leaves-plug, sound-part, sound-whole}
use Rattle.art_steps.proofs.PlaceLemmas.TextsBelow.{text-begins, text-reaches}
use Rattle.art_steps.proofs.SharedLemmas.PrefixLemmas.{key-on}

-- neither text is a prefix of the other
abbrev pub IsApart : List ℕ → List ℕ → Type 0
IsApart a b = (IsPrefixOf a b → ⊥) × (IsPrefixOf b a → ⊥)

-- texts that have different bytes after the same prefix are apart
same-byte : (front : List ℕ) (a b : ℕ) (r s t : List ℕ) → (front ++ b ∷ []) ++ s ≡ ((front ++ a ∷ []) ++ r) ++ t → a ≡ b
same-byte [] a b r s t is = cc
same-byte (c ∷ front) a b r s t is = same-byte front a b r s t (cc)

no-prefix : (front : List ℕ) (a b : ℕ) (x y : List ℕ) → a ≢ b → IsPrefixOf (front ++ a ∷ []) x → IsPrefixOf (front ++ b ∷ []) y → IsPrefixOf x y → ⊥
no-prefix front a b x y differ (r, x_is) (s, y_is) (t, is) = differ (same-byte front a b r s t (sym y_is ∙ is ∙ ap (λ all. all ++ t) x_is))

parted-apart : (front : List ℕ) (a b : ℕ) (x y : List ℕ) → a ≢ b → IsPrefixOf (front ++ a ∷ []) x → IsPrefixOf (front ++ b ∷ []) y → IsApart x y
parted-apart front a b x y differ on_x on_y = (no-prefix front a b x y differ on_x on_y, no-prefix front b a y x (λ same. differ (sym same)) on_y on_x)

module _ {H : Type 0} where
  -- where no text is a prefix of another, a text that is a prefix of one of them is that one
  same-prefix : (all : List (H × List ℕ)) (p q : H) (x y : List ℕ) → AreApart (map (λ leaf. leaf.1) all) → Contains all (p, x) → Contains all (q, y) → IsPrefixOf x y → x ≡ y
  same-prefix [] p q x y apart (k, inside, is) second begins = absurd (omega (arith, inside))
  same-prefix (z ∷ zs) p q x y apart first second begins = elim (Contains-append_cases (z ∷ []) zs (p, x) first) [
    | inl here ↦ elim (Contains-append_cases (z ∷ []) zs (q, y) second) [
      | inl too ↦ ap (λ leaf. leaf.1) (sym (the_one z (p, x) here) ∙ the_one z (q, y) too)
      | inr later ↦ absurd ((after-first IsApart z zs q y apart later).0 (subst (λ text. IsPrefixOf text y) (sym (ap (λ leaf. leaf.1) (the_one z (p, x) here))) begins))
    ]
    | inr later ↦ elim (Contains-append_cases (z ∷ []) zs (q, y) second) [
      | inl here ↦ absurd ((after-first IsApart z zs p x apart later).1 (subst (λ text. IsPrefixOf x text) (sym (ap (λ leaf. leaf.1) (the_one z (q, y) here))) begins))
      | inr too ↦ same-prefix zs p q x y (λ i j d before inside. apart (suc i) (suc j) d (omega (arith, before)) (omega (arith, inside))) later too begins
    ]
  ]

  -- and each text is apart from one between the others
  beside-apart : (left right : List (H × List ℕ)) (p : H) (key : List ℕ) (q : H) (x : List ℕ) → AreApart (map (λ leaf. leaf.1) (left ++ (p, key) ∷ right)) → Contains left (q, x) ⊎ Contains right (q, x) → IsApart x key
  beside-apart [] right p key q x apart (inl (k, inside, is)) = absurd (omega (arith, inside))
  beside-apart [] right p key q x apart (inr inside) = let both = after-first IsApart (p, key) right q x apart inside in (both.1, both.0)
  beside-apart (y ∷ left) right p key q x apart (inr inside) = beside-apart left right p key q x (λ i j d before within. apart (suc i) (suc j) d (omega (arith, before)) (omega (arith, within))) (inr inside)
  beside-apart (y ∷ left) right p key q x apart (inl inside) = elim (Contains-append_cases (y ∷ []) left (q, x) inside) [
    | inl here ↦ subst (λ text. IsApart text key) (ap (λ leaf. leaf.1) (the_one y (q, x) here)) (after-first IsApart y (left ++ (p, key) ∷ right) p key apart (Contains-append_right left ((p, key) ∷ right) (p, key) (0, omega arith, refl)))
    | inr later ↦ beside-apart left right p key q x (λ i j d before within. apart (suc i) (suc j) d (omega (arith, before)) (omega (arith, within))) (inl later)
  ]

  -- a key that goes on with a byte that has no branch is apart from the texts of the branches
  no-branch-apart : (path : List ℕ) (branches : Branches H) (byte : ℕ) (key : List ℕ) → AreSound path branches → child_at (branch_roots branches) byte ≡ None → IsPrefixOf (path ++ byte ∷ []) key → (q : H) (x : List ℕ) → Contains (branch_leaves branches) (q, x) → IsApart x key
  no-branch-apart path NoBranch byte key sound absent leads q x (k, inside, is) = absurd (omega (arith, inside))
  no-branch-apart path (Branch b tree others) byte key sound absent leads q x inside = elim (cases_eq b byte) [
    | inl same ↦ (let there : Some (root_of tree) ≡ None = rw (eq-eqb b byte same) at absent in absurd (cc))
    | inr differ ↦ elim (Contains-append_cases (leaves tree) (branch_leaves others) (q, x) inside) [
      | inl here ↦ parted-apart path b byte x key differ (text-begins (path ++ b ∷ []) tree q x sound.0 here) leads
      | inr later ↦ no-branch-apart path others byte key sound.1 (rw (ne_eqb b byte differ) at absent) leads q x later
    ]
  ]

  module _ (law : (tree : Tree H) → IsWellFormed tree → AreApart (texts tree)) where
    -- a key that leads to a part of a tree is apart from all texts outside the part, which might be a leaf with the key
    around-apart : (context : Context H) (part : Tree H) (key : List ℕ) → IsWellFormed (plug context part) → IsPrefixOf (path_to context) key → length key < 2 ^ 64 → (q : H) (x : List ℕ) → Contains (leaves_before context) (q, x) ⊎ Contains (leaves_after context) (q, x) → IsApart x key
    around-apart context part key sound leads short q x inside =
        let leaf = Leaf (root_of part) key in
        beside-apart (leaves_before context) (leaves_after context) (root_of part) key q x
        (subst (λ all. AreApart (map (λ l. l.1) all)) (leaves-plug context leaf) (law (plug context leaf) (sound-whole context part leaf sound (leads, short)))) inside

    -- so it is apart from all texts where it is apart from those of the part
    whole-apart : (context : Context H) (part : Tree H) (key : List ℕ) → IsWellFormed (plug context part) → IsPrefixOf (path_to context) key → length key < 2 ^ 64 → ((q : H) (x : List ℕ) → Contains (leaves part) (q, x) → IsApart x key) → (q : H) (x : List ℕ) → Contains (leaves (plug context part)) (q, x) → IsApart x key
    whole-apart context part key sound leads short within q x inside = elim (Contains-append_cases (leaves_before context) (leaves part ++ leaves_after context) (q, x) (subst (λ all. Contains all (q, x)) (leaves-plug context part) inside)) [
      | inl earlier ↦ around-apart context part key sound leads short q x (inl earlier)
      | inr from ↦ elim (Contains-append_cases (leaves part) (leaves_after context) (q, x) from) [
        | inl here ↦ within q x here
        | inr later ↦ around-apart context part key sound leads short q x (inr later)
      ]
    ]

module _ {K V : Type 0} {P : ℕ} (law : (tree : Tree (OpaqueNodePtr K V P)) → IsWellFormed tree → AreApart (texts tree)) (tree : Tree (OpaqueNodePtr K V P)) (sound : IsWellFormed tree) (key : List ℕ) (short : length key < 2 ^ 32) (spot : Spot K V P) where
  -- a key that leads to a spot is apart from all texts where it is apart from those there
  spot-apart : (at : IsSpot tree key spot) → ((q : OpaqueNodePtr K V P) (x : List ℕ) → Contains (leaves at.part) (q, x) → IsApart x key) → (q : OpaqueNodePtr K V P) (x : List ℕ) → Contains (leaves tree) (q, x) → IsApart x key
  spot-apart at within q x inside =
      whole-apart law at.context at.part key (subst IsWellFormed (sym at.whole) sound) at.leads (omega (arith, short)) within q x (subst (λ all. Contains (leaves all) (q, x)) (sym at.whole) inside)

  part-sound : (at : IsSpot tree key spot) → IsSound (path_to at.context) at.part
  part-sound at = sound-part at.context at.part (subst IsWellFormed (sym at.whole) sound)

  -- a key that lacks a child is apart from all texts
  pub child-apart : (byte : ℕ) → LacksChild tree key spot byte → (q : OpaqueNodePtr K V P) (x : List ℕ) → Contains (leaves tree) (q, x) → IsApart x key
  child-apart byte lacks =
      let path = path_to lacks.at.context in
      let under = subst (IsSound path) lacks.part (part-sound lacks.at) in
      spot-apart lacks.at (λ q x inside. no-branch-apart (path ++ lacks.prefix) lacks.branches byte key under.2 lacks.absent lacks.leads q x (subst (λ part. Contains (leaves part) (q, x)) lacks.part inside))

  -- and so is one that differs from the texts at a node
  pub fork-apart : (mismatch : Mismatch) → Parts tree key spot mismatch → (q : OpaqueNodePtr K V P) (x : List ℕ) → Contains (leaves tree) (q, x) → IsApart x key
  fork-apart mismatch parts =
      let path = path_to parts.at.context in
      let front = take mismatch.index key in
      spot-apart parts.at (λ q x inside. parted-apart front mismatch.node_byte mismatch.byte x key (λ same. parts.differ (sym same))
      (prefix-on (front ++ mismatch.node_byte ∷ []) (reach path parts.at.part) x parts.node (text-reaches path parts.at.part q x (part-sound parts.at) inside)) (key-on key mismatch.index mismatch.byte parts.byte))

module _ {K V : Type 0} {P : ℕ} (text : K → List ℕ) (arena : NodeArena K V P) where
  -- in an empty arena nothing but an allocation failure refuses a short text
  pub empty-new : ((pointer : OpaqueNodePtr K V P) → held arena pointer ≡ Nothing) → (key : List ℕ) → length key < 2 ^ 32 → IsRefused text arena key OutOfMemory
  empty-new nothing key short = ((short, λ clash. clash.1 (empty-entry text arena nothing clash.0)), empty-entry text arena nothing key)

  module _ (root : OpaqueNodePtr K V P) (tree : Tree (OpaqueNodePtr K V P)) (alone : IsAlone text arena root tree) where
    -- a text that has an entry is that of a leaf
    entry-leaf : (x : List ℕ) → HasEntry text arena x → (q : OpaqueNodePtr K V P) × Contains (leaves tree) (q, x)
    entry-leaf x has =
        by_option (entry_at text arena x) ((q : OpaqueNodePtr K V P) × Contains (leaves tree) (q, x)) (λ none. absurd (has none)) (λ entry is. let leaf = leaf-of-entry text arena root tree alone x entry is in (leaf.pointer, leaf.inside))

    -- and the text of a leaf has an entry
    leaf-entry : AreApart (texts tree) → (q : OpaqueNodePtr K V P) (x : List ℕ) → Contains (leaves tree) (q, x) → HasEntry text arena x
    leaf-entry apart q x inside none =
        let leaf = leaf-held-in text arena tree alone.is_tree.stands q x inside in
        let wrong = sym (held-entry text arena root tree alone apart q leaf.0 leaf.1) ∙ ap (entry_at text arena) leaf.2 ∙ none in
        absurd (cc)

    -- a text that clashes with one of the tree clashes with an entry
    pub clash-entry : AreApart (texts tree) → (key : List ℕ) → Clashes (texts tree) key → ClashesIn text arena key
    clash-entry apart key (other, inside, clash) = let leaf = leaf-with (leaves tree) other inside in (other, leaf-entry apart leaf.0 other leaf.1, clash)

    -- a text of the tree clashes with no entry
    pub no-clash : AreApart (texts tree) → (q : OpaqueNodePtr K V P) (key : List ℕ) → Contains (leaves tree) (q, key) → ClashesIn text arena key → ⊥
    no-clash apart q key inside (other, has, clash) =
        let leaf = entry-leaf other has in
        elim clash [
          | inl front ↦ front.1 (same-prefix (leaves tree) leaf.0 q other key apart leaf.1 inside front.0)
          | inr front ↦ front.1 (same-prefix (leaves tree) q leaf.0 key other apart inside leaf.1 front.0)
        ]

    -- a short text that is apart from all of the tree's is refused by nothing but an allocation
    -- failure
    pub apart-new : (key : List ℕ) → length key < 2 ^ 32 → ((q : OpaqueNodePtr K V P) (x : List ℕ) → Contains (leaves tree) (q, x) → IsApart x key) → IsRefused text arena key OutOfMemory
    apart-new key short apart = (
      (short, λ (other, has, clash). never other has clash),
      by_option (entry_at text arena key) (entry_at text arena key ≡ None) (λ is. is) (λ entry is.
          let leaf = leaf-of-entry text arena root tree alone key entry is in
          absurd ((apart leaf.pointer key leaf.inside).0 ([], sym (append-nil key)))),
    )
      where
        never : (other : List ℕ) → HasEntry text arena other → IsProperPrefixOf other key ⊎ IsProperPrefixOf key other → ⊥
        never other has clash =
            let leaf = entry-leaf other has in
            let both = apart leaf.0 other leaf.1 in
            elim clash [ inl front ↦ both.0 front.0 | inr front ↦ both.1 front.0 ]

-- the place of a key is no leaf with the key where there is none
pub present-new : {K V : Type 0} {P : ℕ} (found : Option (OpaqueNodePtr K V P × Place K V P)) (root : OpaqueNodePtr K V P) (place : Place K V P) → found ≡ Some (root, place) → present_leaf found ≡ None → (leaf : LeafPtr K V P) → place ≡ places.Present leaf → ⊥
present-new found root place is new leaf here =
    let wrong : Some (root, leaf) ≡ None = sym (ap present_leaf (is ∙ ap (λ (p : Place _ _ _). Some (root, p)) here)) ∙ new in
    cc

-- an arena that stays without nodes has no entry before and after
module _ {K V : Type 0} {P : ℕ} (text : K → List ℕ) (old new : NodeArena K V P) (same : SameNodes old new) where
  pub empty-stays : ((pointer : OpaqueNodePtr K V P) → held old pointer ≡ Nothing) → SameEntries text old new
  empty-stays nothing x = empty-entry text new (λ p. same p ∙ nothing p) x ∙ sym (empty-entry text old nothing x)

-- the result of an insert of a text without an entry
module _ {K V : Type 0} {P : ℕ} (text : K → List ℕ) (old new : NodeArena K V P) (root : Option (OpaqueNodePtr K V P)) (key : K) (value : V) where
  -- it follows from what was added, where nothing but an allocation failure refuses the text
  module _ (added : Result (OpaqueNodePtr K V P × LeafPtr K V P) (K × V)) (adds : AddsEntry text old new root key value added) where
    pub answered : IsRefused text old (text key) OutOfMemory → (SameNodes old new → SameEntries text old new) → (result : Result (OpaqueNodePtr K V P × LeafPtr K V P) (InsertFault K V))
        → ((at : OpaqueNodePtr K V P × LeafPtr K V P) → added ≡ Ok at → result ≡ Ok at)
        → ((k : K) (v : V) → added ≡ Err (k, v) → result ≡ Err (record { refusal = OutOfMemory; key = k; value = v })) → InsertsNew text old new root key value result
    answered is_new stay result told refused = by_added added refl adds.art adds.leaf adds.entered adds.entry_back adds.nodes_kept adds.no_room
      where
        by_added : (a : Result (OpaqueNodePtr K V P × LeafPtr K V P) (K × V)) → added ≡ a → IfOk a (λ at. IsArt text new (Some at.0)) → IfOk a (λ at. HoldsEntry new (leaf_pointer at.1) key value) → OnOk a (IsEntered text old new key value)
            → IfErr a (λ entry. entry ≡ (key, value)) → OnErr a (SameNodes old new) → OnErr a ((kind : NodeType) × LacksRoomToInsert text old root (text key) kind) → InsertsNew text old new root key value result
        by_added (Ok at) is is_art is_held is_entered back kept none = subst (InsertsNew text old new root key value) (sym (told at is)) (record {
          art = is_art;
          leaf = is_held;
          absent = is_new.1;
          entered = is_entered;
          no_refusal = is_new.0;
          refusal_due = tt;
          entry_back = tt;
          same_entries = tt;
          nodes_kept = tt;
          untouched = tt;
          no_room = tt;
          takes_no_memory = λ has. absurd (has is_new.1);
          memory = adds.memory;
        })
        by_added (Err (k, v)) is is_art is_held is_entered back kept none = subst (InsertsNew text old new root key value) (sym (refused k v is)) (record {
          art = tt;
          leaf = tt;
          absent = tt;
          entered = tt;
          no_refusal = tt;
          refusal_due = is_new;
          entry_back = (ap (λ entry. entry.0) back, ap (λ entry. entry.1) back);
          same_entries = stay kept;
          nodes_kept = kept;
          untouched = λ differ. absurd (differ refl);
          no_room = λ _. none;
          takes_no_memory = λ has. absurd (has is_new.1);
          memory = adds.memory;
        })

  -- it is refused for the text, and nothing has changed
  pub untouched-refused : (refusal : InsertRefusal) → IsRefused text old (text key) refusal → refusal ≢ OutOfMemory → new ≡ old → InsertsNew text old new root key value (Err (record { refusal = refusal; key = key; value = value }))
  untouched-refused refusal due other same = record {
    art = tt;
    leaf = tt;
    absent = tt;
    entered = tt;
    no_refusal = tt;
    refusal_due = due;
    entry_back = (refl, refl);
    same_entries = λ x. ap (λ arena. entry_at text arena x) same;
    nodes_kept = λ pointer. ap (λ arena. held arena pointer) same;
    untouched = λ _. same;
    no_room = λ is. absurd (other is);
    takes_no_memory = λ has. subst (SameRoom old) (sym same) (λ kind. refl);
    memory = λ kind. inl (ap (λ arena. capacity arena kind) same);
  }
