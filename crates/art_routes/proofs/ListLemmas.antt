-- The entry of a key, in the list of an arena's entries.
use Rattle.art_routes.proofs.LeafNames.{Bool, HeldLeaf, LeafNode, List, NodeArena, None, OpaqueNodePtr, Option, Some, [], ap, by_text, cond, entries_among, entries_of, entry-some, entry_among, entry_at, entry_with, false, greater_differs, held, held_leaf, leaf_at, leaf_key, leaf_place, leaf_value, nat_eq, opaque_key, other_text, pointwise, put-cases, put_entry, refl, same_order, same_text, sym, text_itself, texts_differ, true, ℕ, ◌∙◌, ◌∷◌, ◌≡◌, ◌≢◌}

module _ {K V : Type 0} (text : K → List ℕ) where
  -- one entry is in front, or another
  found_first : (entry : K × V) (entries : List (K × V)) (x : List ℕ) → text entry.0 ≡ x → entry_with text (entry ∷ entries) x ≡ Some entry
  found_first entry entries x same = rw (ap (λ y. pointwise nat_eq y x) same ∙ text_itself x) refl

  found_later : (entry : K × V) (entries : List (K × V)) (x : List ℕ) → text entry.0 ≢ x → entry_with text (entry ∷ entries) x ≡ entry_with text entries x
  found_later entry entries x differ = rw (other_text (text entry.0) x differ) refl

  by_first : (Holds : Option (K × V) → Type 0) (entry : K × V) (entries : List (K × V)) (x : List ℕ) → (text entry.0 ≡ x → Holds (Some entry)) → (text entry.0 ≢ x → Holds (entry_with text entries x)) → Holds (entry_with text (entry ∷ entries) x)
  by_first Holds entry entries x same differ =
      by_text (text entry.0) x (Holds (entry_with text (entry ∷ entries) x)) (λ is one. rw is (same one)) (λ is other. rw is (differ other))

  -- look-ups: after an entry was put, of its own text and of another
  put_found : (entries : List (K × V)) (entry : K × V) → entry_with text (put_entry text entries entry) (text entry.0) ≡ Some entry
  put_found [] entry = found_first entry [] (text entry.0) refl
  put_found (other ∷ entries) entry =
      put-cases text (λ all. entry_with text all (text entry.0) ≡ Some entry) other entries entry (λ _. found_first entry (other ∷ entries) (text entry.0) refl) (λ _. found_first entry entries (text entry.0) refl)
      (λ greater. found_later other (put_entry text entries entry) (text entry.0) (λ same. greater_differs (text entry.0) (text other.0) greater (sym same)) ∙ put_found entries entry)

  others_found : (entries : List (K × V)) (entry : K × V) (x : List ℕ) → text entry.0 ≢ x → entry_with text (put_entry text entries entry) x ≡ entry_with text entries x
  others_found [] entry x differ = found_later entry [] x differ
  others_found (other ∷ entries) entry x differ =
      put-cases text (λ all. entry_with text all x ≡ entry_with text (other ∷ entries) x) other entries entry (λ _. found_later entry (other ∷ entries) x differ)
      (λ equal. found_later entry entries x differ ∙ sym (found_later other entries x (λ same. differ (same_order (text entry.0) (text other.0) equal ∙ same))))
      (λ _. by_first (λ o. entry_with text (other ∷ put_entry text entries entry) x ≡ o) other entries x (found_first other (put_entry text entries entry) x) (λ apart. found_later other (put_entry text entries entry) x apart ∙ others_found entries entry x differ))

  found_after_put : (entries : List (K × V)) (entry : K × V) (x : List ℕ) → entry_with text (put_entry text entries entry) x ≡ cond (pointwise nat_eq (text entry.0) x) (Some entry) (entry_with text entries x)
  found_after_put entries entry x = by_test (pointwise nat_eq (text entry.0) x) refl
    where
      by_test : (t : Bool) → pointwise nat_eq (text entry.0) x ≡ t → entry_with text (put_entry text entries entry) x ≡ cond t (Some entry) (entry_with text entries x)
      by_test true is = ap (entry_with text (put_entry text entries entry)) (sym (same_text (text entry.0) x is)) ∙ put_found entries entry
      by_test false is = others_found entries entry x (texts_differ (text entry.0) x is)

pub slot-of : {K V : Type 0} {P : ℕ} (o : Option (LeafNode K V P)) (leaf : LeafNode K V P) → held_leaf {H = OpaqueNodePtr K V P} o ≡ HeldLeaf leaf → o ≡ Some leaf
slot-of None leaf is = absurd (cc)
slot-of (Some other) leaf is = cc

pub slots-same : {K V : Type 0} {P : ℕ} (a b : Option (LeafNode K V P)) → held_leaf {H = OpaqueNodePtr K V P} a ≡ held_leaf b → a ≡ b
slots-same None None same = refl
slots-same None (Some b) same = absurd (cc)
slots-same (Some a) None same = absurd (cc)
slots-same (Some a) (Some b) same = cc

module _ {K V : Type 0} {P : ℕ} (text : K → List ℕ) where
  among-finds : (slots : List (Option (LeafNode K V P))) (x : List ℕ) → entry_with text (entries_among text slots) x ≡ entry_among text slots x
  among-finds [] x = refl
  among-finds (None ∷ slots) x = among-finds slots x
  among-finds (Some leaf ∷ slots) x =
      found_after_put text (entries_among text slots) (leaf_key leaf, leaf_value leaf) x
      ∙ ap (λ rest. cond (pointwise nat_eq (text (leaf_key leaf)) x) (Some (leaf_key leaf, leaf_value leaf)) rest) (among-finds slots x)

  -- a leaf's text has an entry
  pub leaf-found : (arena : NodeArena K V P) (pointer : OpaqueNodePtr K V P) (leaf : LeafNode K V P) (x : List ℕ) → held arena pointer ≡ HeldLeaf leaf → text (leaf_key leaf) ≡ x → entry_at text arena x ≢ None
  leaf-found arena pointer leaf x is has none =
      let place = ap (held arena) (leaf_place arena pointer leaf is) ∙ is in
      let found = entry-some text arena.leaf.slots (opaque_key pointer) leaf (slot-of (leaf_at arena (opaque_key pointer)) leaf place) in
      let wrong : Some found.0 ≡ None = sym found.1 ∙ ap (entry_at text arena) has ∙ none in absurd (cc)

  -- the entry of a text is the arena's
  pub entries-find : (arena : NodeArena K V P) (x : List ℕ) → entry_with text (entries_of text arena) x ≡ entry_at text arena x
  entries-find arena x = among-finds arena.leaf.slots x
