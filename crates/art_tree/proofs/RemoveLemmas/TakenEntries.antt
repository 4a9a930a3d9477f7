-- What is removed of an arena is removed of the tree in it, of the entry at its end, or by its leaf.
use Rattle.art_tree.proofs.Names.{LeafPtr, ◌≡◌, ◌∙◌, ◌+◌, ℕ, List, Option, Some, None, Result, Ok, Err, IsSome, refl, sym, ap, subst, inl, arith, inr, leaf_key, leaf_value, OpaqueNodePtr, LeafNode, NodeArena, held_leaf, HeldLeaf, SameCapacity, leaf_at, End, IsArt, Art, entry_at, IsEmpty, HasKeys, same_Some, IsEndEntry, PopsEntry, GrowsOnlyWhere, LacksRoomToRemove, TreePath, opaque_pointer, LeafKind, IsErr, IsFound, TakesEntry, RemovesEntry}
use Rattle.art_steps.specs.Room.{HasEntryRoom}
use Rattle.art_steps.proofs.SharedLemmas.DictionaryLemmas.{entry-of-leaf}
use Rattle.art_steps.proofs.SharedLemmas.ExchangedTree.{art-same, entries-stay}
use Rattle.art_tree.proofs.SharedLemmas.KeyLemmas.{keys-left, keys-same}
use Rattle.art_tree.proofs.SharedLemmas.RoomLasts.{enough-to-remove, lasts-after-removal, no-growth}
use Rattle.art_tree.proofs.SharedLemmas.TreeLaws.{apart-there}
use Rattle.art_tree.proofs.RemoveLemmas.RemovalLemmas.{failed, okay}

-- what holds of each error holds of a result that is one
pub at-err : {T E : Type 0} (Holds : Result T E → Type 0) → ((e : E) → Holds (Err e)) → (r : Result T E) → IsErr r → Holds r
at-err Holds each (Ok x) is = absurd (cc)
at-err Holds each (Err e) is = each e

-- the tree below a root, and the tree after a removal
module _ {K V E : Type 0} {P : ℕ} (text : K → List ℕ) (old new : Art (NodeArena K V P) (OpaqueNodePtr K V P)) (root : OpaqueNodePtr K V P) (is_root : old.root ≡ Some root) (art : IsArt text old.arena old.root) (x : List ℕ) where
  module _ {e : Result (Option (OpaqueNodePtr K V P) × (K × V)) E} (removes : RemovesEntry text old.arena new.arena root x e) where
    grows : GrowsOnlyWhere old.arena new.arena (LacksRoomToRemove text old.arena old.root x)
    grows = subst (λ r. GrowsOnlyWhere old.arena new.arena (LacksRoomToRemove text old.arena r x)) (sym is_root) removes.memory

    never : (count : ℕ) → HasEntryRoom old.arena (count + 1) → (kind : _) → LacksRoomToRemove text old.arena old.root x kind → ⊥
    never count has kind = enough-to-remove text old.arena old.root x kind count art has

    kept : (count : ℕ) → HasEntryRoom old.arena (count + 1) → SameCapacity old.arena new.arena
    kept count has = no-growth old.arena new.arena (LacksRoomToRemove text old.arena old.root x) (never count has) grows

  -- the entry is taken
  pub taken : (entry : K × V) → RemovesEntry text old.arena new.arena root x (okay E (new.root, entry)) → TakesEntry text old new x (okay E entry)
  taken entry removes = record {
    removed = removes.removed.was;
    left = removes.removed.left;
    refused = tt;
    same_entries = tt;
    nodes_kept = tt;
    root_kept = tt;
    no_room = tt;
    takes_no_memory = removes.takes_no_memory;
    memory = grows removes;
    room_suffices = λ count has. refl;
    room_lasts = λ count has. lasts-after-removal text old.arena new.arena old.root new.root x count art removes.removed.art removes.removed.left.others (kept removes count has) has removes.removed.left.gone;
  }

  pub taken-seen : (seen : Art (NodeArena K V P) (OpaqueNodePtr K V P)) → old ≡ seen → (entry : K × V) → RemovesEntry text old.arena new.arena root x (okay E (new.root, entry)) → TakesEntry text seen new x (okay E entry)
  taken-seen seen same entry removes = subst (λ s. TakesEntry text s new x (okay E entry)) same (taken entry removes)

  -- or it is not, for want of room
  pub refused : new.root ≡ old.root → (e : E) → RemovesEntry text old.arena new.arena root x (failed (Option (OpaqueNodePtr K V P) × (K × V)) e) → (error : E) → TakesEntry text old new x (failed (K × V) error)
  refused same e removes error =
      let (tree, alone) = subst (IsArt text old.arena) is_root art in
      let (kind, lacks) = removes.no_room in
      let here = subst (λ r. LacksRoomToRemove text old.arena r x kind) (sym is_root) lacks in
      record {
        removed = tt;
        left = tt;
        refused = removes.refused;
        same_entries = entries-stay text old.arena new.arena removes.nodes_kept root tree alone (apart-there alone);
        nodes_kept = removes.nodes_kept;
        root_kept = same;
        no_room = (kind, here);
        takes_no_memory = removes.takes_no_memory;
        memory = grows removes;
        room_suffices = λ count has. absurd (never removes count has kind here);
        room_lasts = λ count has. absurd (never removes count has kind here);
      }

  -- in both cases the invariant of a tree holds on
  module _ (is_key : K → Type 0) (keys : HasKeys text is_key old.arena) where
    pub taken-invariant : (entry : K × V) → RemovesEntry text old.arena new.arena root x (okay E (new.root, entry)) → IsArt text new.arena new.root × HasKeys text is_key new.arena
    taken-invariant entry removes = (removes.removed.art, keys-left text is_key old.arena new.arena keys x removes.removed.left)

    pub refused-invariant : new.root ≡ old.root → (e : E) → RemovesEntry text old.arena new.arena root x (failed (Option (OpaqueNodePtr K V P) × (K × V)) e) → IsArt text new.arena new.root × HasKeys text is_key new.arena
    refused-invariant same e removes = (subst (IsArt text new.arena) (sym same) (art-same text old.arena new.arena removes.nodes_kept old.root art), keys-same text is_key old.arena new.arena keys (refused same e removes e).same_entries)

-- a leaf that is held has the entry of its text
pub leaf-entry : {K V : Type 0} {P : ℕ} (text : K → List ℕ) (arena : NodeArena K V P) (root : Option (OpaqueNodePtr K V P)) → IsArt text arena root → (key : ℕ) (leaf : LeafNode K V P) → leaf_at arena key ≡ Some leaf → entry_at text arena (text (leaf_key leaf)) ≡ Some (leaf_key leaf, leaf_value leaf)
leaf-entry {K = K} {V = V} {P = P} text arena None nothing key leaf is = let wrong : HeldLeaf leaf ≡ _ = sym (ap (held_leaf {H = OpaqueNodePtr K V P}) is) ∙ nothing (opaque_pointer LeafKind key) in absurd (cc)
leaf-entry text arena (Some root) (tree, alone) key leaf is = entry-of-leaf text arena root tree alone (apart-there alone) key leaf is

-- a search for a text that has an entry finds its leaf
pub finds : {K V : Type 0} {P : ℕ} (text : K → List ℕ) (art : Art (NodeArena K V P) (OpaqueNodePtr K V P)) (x : List ℕ) (entry : K × V) (result : Option (LeafPtr K V P × TreePath K V P)) → entry_at text art.arena x ≡ Some entry → IsFound text art x result → IsSome result
finds text art x entry None some none = let wrong : Some entry ≡ None = sym some ∙ none in absurd (cc)
finds text art x entry (Some pair) some is = refl

-- the entry at an end is taken, if there is one
module _ {K V E : Type 0} {P : ℕ} (text : K → List ℕ) (old new : Art (NodeArena K V P) (OpaqueNodePtr K V P)) (end : End) where
  pub pops-none : IsEmpty text old.arena → ((count : ℕ) → HasEntryRoom old.arena (count + 1) → HasEntryRoom old.arena count) → PopsEntry text old old end (okay E None)
  pops-none empty fewer = record {
    removed = tt;
    none = empty;
    empty_kept = refl;
    left = tt;
    refused = tt;
    same_entries = tt;
    nodes_kept = tt;
    root_kept = tt;
    no_room = tt;
    takes_no_memory = λ enough kind. omega arith;
    memory = λ kind. inl refl;
    room_suffices = λ count has. refl;
    room_lasts = fewer;
  }

  module _ (entry : K × V) (is : IsEndEntry text old.arena end entry) where
    pub pops-taken : (found : K × V) → TakesEntry text old new (text entry.0) (okay E found) → PopsEntry text old new end (okay E (Some found))
    pops-taken found takes = subst (λ e. PopsEntry text old new end (okay E (Some e))) (same_Some entry found (sym is.is_entry ∙ takes.removed)) (record {
      removed = is;
      none = tt;
      empty_kept = tt;
      left = takes.left;
      refused = tt;
      same_entries = tt;
      nodes_kept = tt;
      root_kept = tt;
      no_room = tt;
      takes_no_memory = λ enough. takes.takes_no_memory (λ needs. enough (entry, is, needs));
      memory = λ kind. elim (takes.memory kind) [ inl same ↦ inl same | inr lacks ↦ inr (entry, is, lacks) ];
      room_suffices = λ count has. refl;
      room_lasts = takes.room_lasts;
    })

    pub pops-refused : (e : E) → TakesEntry text old new (text entry.0) (failed (K × V) e) → (error : E) → PopsEntry text old new end (failed (Option (K × V)) error)
    pops-refused e takes error = record {
      removed = tt;
      none = tt;
      empty_kept = tt;
      left = tt;
      refused = (entry, is, takes.refused);
      same_entries = takes.same_entries;
      nodes_kept = takes.nodes_kept;
      root_kept = takes.root_kept;
      no_room = let (kind, lacks) = takes.no_room in (kind, (entry, is, lacks));
      takes_no_memory = λ enough. absurd (enough (entry, is, takes.refused));
      memory = λ kind. elim (takes.memory kind) [ inl same ↦ inl same | inr lacks ↦ inr (entry, is, lacks) ];
      room_suffices = takes.room_suffices;
      room_lasts = takes.room_lasts;
    }
