-- A tree in which a leaf has another value.
use Rattle.art_tree.proofs.Names.{◌≡◌, ◌∙◌, ℕ, List, Option, None, Some, OnSome, refl, ap, sym, subst, option_map, leaf_key, leaf_value, with_value, opaque_pointer, OpaqueNodePtr, LeafNode, NodeArena, HeldLeaf, Changes, SameRoom, held_leaf, HoldsLeaf, leaf_at, with_value_at, IsArt, entry_at, HasKeys, SameOtherEntries, IsEntered, HasValueNow, LeafKind}
use Rattle.art_tree.proofs.SharedLemmas.KeyLemmas.{keys-entered}
use Rattle.art_tree.proofs.InsertLemmas.FirstEntry.{replaced-entered, replaced-art, replaced-was}

pub on-some-none : {X : Type 0} (o : Option X) (Q : Type 0) → o ≡ None → OnSome o Q
on-some-none None Q none = tt
on-some-none (Some x) Q none = absurd (cc)

-- the leaf that an arena holds
pub leaf-there : {K V : Type 0} {P : ℕ} (arena : NodeArena K V P) (key : ℕ) → HoldsLeaf arena key → (was : LeafNode K V P) × (leaf_at arena key ≡ Some was)
leaf-there {K = K} {V = V} {P = P} arena key is_held = by_slot (leaf_at arena key) refl
  where
    by_slot : (o : Option (LeafNode K V P)) → leaf_at arena key ≡ o → (was : LeafNode K V P) × (leaf_at arena key ≡ Some was)
    by_slot None is = absurd (is_held (ap (held_leaf {H = OpaqueNodePtr K V P}) is))
    by_slot (Some was) is = (was, is)

-- a leaf with another value in its place
module _ {K V : Type 0} {P : ℕ} (text : K → List ℕ) (old : NodeArena K V P) (slot : ℕ) (was : LeafNode K V P) (found : leaf_at old slot ≡ Some was) (w : V) (changes : Changes old (with_value_at old slot w) (opaque_pointer LeafKind slot) (HeldLeaf (with_value was w)))
    (root : Option (OpaqueNodePtr K V P)) (art : IsArt text old root) where
  abbrev new : NodeArena K V P
  new = with_value_at old slot w

  -- the leaf's entry has the value, and nothing else has changed
  pub value-entered : IsEntered text old new (leaf_key was) w
  value-entered = replaced-entered text old new slot was (with_value was w) found changes refl refl refl root art

  value-was : entry_at text old (text (leaf_key was)) ≡ Some (leaf_key was, leaf_value was)
  value-was = replaced-was text old new slot was (with_value was w) found changes refl refl refl root art

  -- the invariant of the tree holds on
  pub value-invariant : (is_key : K → Type 0) → HasKeys text is_key old → IsArt text new root × HasKeys text is_key new
  value-invariant is_key keys = (
    replaced-art text old new slot was (with_value was w) found changes refl refl refl root art,
    keys-entered text is_key old new keys (leaf_key was) w value-entered (keys (leaf_key was, leaf_value was) value-was),
  )

  -- the entry of the leaf's text has the value
  pub value-now : (x : List ℕ) → text (leaf_key was) ≡ x → SameRoom old new → HasValueNow text (record { arena = old; root = root }) (record { arena = new; root = root }) x w
  value-now x has room = record {
    entry = ap (entry_at text new) (sym has) ∙ value-entered.entry ∙ sym (ap (option_map (λ (entry : K × V). (entry.0, w))) (ap (entry_at text old) (sym has) ∙ value-was));
    others = subst (SameOtherEntries text old new) has value-entered.others;
    nodes = (opaque_pointer LeafKind slot, was, ap held_leaf found, has, changes);
    room = room;
    root = refl;
  }
