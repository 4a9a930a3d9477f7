-- An entry that is entered at its place in a tree with its arena.
use Rattle.art_tree.proofs.Names.{LeafPtr, All-contains, ◌≡◌, ◌+◌, ◌<◌, ◌^◌, ℕ, IfSome, List, None, Result, Some, inl, inr, length, refl, subst, sym, ◌∙◌, ap, Err, Ok, Belongs, present_leaf, EachTree, leaf_pointer, GrowsOnlyWhere, LacksRoomToInsert, HasKeys, entry_at, HeldLeaf, NodeArena, SameCapacity, SameRoom, held, Changes, HoldsLeaf, leaf_at, InsertsNew, IsEntered, MayEnter, IsAlone, IsArt, Art, LeafNode, OpaqueNodePtr, Tree, leaves, texts, image_inside, leaf_key, leaf_value, next_key, previous_key, slab_key, InsertFault, Place, FindsOrInserts, InsertsAt, IsPlaceOf, IsPresent, ReplacesEntry}
use Rattle.art_steps.specs.Room.{HasEntryRoom}
use Rattle.art_steps.specs.declared.place.Place.TheVariants as places
use Rattle.art_steps.proofs.PlaceLemmas.WayPlaces.{leaf-inside}
use Rattle.art_tree.proofs.SharedLemmas.TreeLaws.{apart-there}
use Rattle.art_steps.proofs.SharedLemmas.ExchangedTree.{art-same}
use Rattle.art_tree.proofs.SharedLemmas.RoomLasts.{enough-to-insert, has-found, lasts-after-insert, lasts-where-kept, no-growth}
use Rattle.art_steps.proofs.SharedLemmas.DictionaryLemmas.{entry-of-member, leaf-held-in}
use Rattle.art_tree.proofs.SharedLemmas.KeyLemmas.{keys-entered, keys-same}
use Rattle.art_tree.proofs.InsertLemmas.EntryLemmas.{no-clash}
use Rattle.art_steps.proofs.SharedLemmas.RoomLemmas.{same-capacity}
use Rattle.art_steps.proofs.InsertLemmas.NodeLemmas.{some-leaf, one-leaf}
use Rattle.art_links.proofs.HeldNodes.{leaf-of}
use Rattle.art_tree.proofs.InsertLemmas.FirstEntry.{replaced-art, replaced-entered}

module _ {K V : Type 0} {P : ℕ} {text : K → List ℕ} {art : Art (NodeArena K V P) (OpaqueNodePtr K V P)} where
  -- where there is no entry, there is no place
  pub no-place : (x : List ℕ) → art.root ≡ None → IsPlaceOf text art x None
  no-place x none = record { root = sym none; belongs = tt; present = tt }

  -- the place that is found below a root
  pub place-found : (root : OpaqueNodePtr K V P) → art.root ≡ Some root → (tree : Tree (OpaqueNodePtr K V P)) → IsAlone text art.arena root tree → (x : List ℕ) (place : Place K V P) → EachTree text art.arena root (λ tree. Belongs tree x place) → IsPlaceOf text art x (Some (root, place))
  place-found root is_root tree alone x place each = record { root = sym is_root; belongs = each; present = by_place place (each tree alone.is_tree) }
    where
      by_place : (place : Place K V P) → Belongs tree x place → IfSome (present_leaf (Some (root, place))) (λ at. IsPresent text art at.1 x)
      by_place (places.Present leaf) at = record { root = root; is_root = is_root; tree = tree; alone = alone; inside = leaf-inside tree x (leaf_pointer leaf) x at }
      by_place (places.Extends leaf) at = tt
      by_place (places.Begins spot) at = tt
      by_place (places.Absent spot byte) at = tt
      by_place (places.Differs spot mismatch) at = tt

-- a leaf that has the text
module _ {K V : Type 0} {P : ℕ} {text : K → List ℕ} {art : Art (NodeArena K V P) (OpaqueNodePtr K V P)} {leaf : LeafPtr K V P} {x : List ℕ} (present : IsPresent text art leaf x) where
  -- it is held, and has the entry of the text
  pub present-leaf : (node : LeafNode K V P) × (held art.arena (leaf_pointer leaf) ≡ HeldLeaf node) × (text (leaf_key node) ≡ x)
  present-leaf = leaf-held-in text art.arena present.tree present.alone.is_tree.stands (leaf_pointer leaf) x present.inside

  pub present-held : HoldsLeaf art.arena (slab_key leaf)
  present-held = some-leaf (held art.arena (leaf_pointer leaf)) present-leaf.0 present-leaf.1

  pub present-entry : entry_at text art.arena x ≡ Some (leaf_key present-leaf.0, leaf_value present-leaf.0)
  present-entry = entry-of-member text art.arena present.root present.tree present.alone (apart-there present.alone) (leaf_pointer leaf) x present-leaf.0 present.inside present-leaf.1

  -- nothing but an allocation failure refuses the text
  pub present-may : MayEnter text art.arena x
  present-may = (
    All-contains (λ x. length x < 2 ^ 32) (texts present.tree) x present.alone.short (image_inside (λ leaf. leaf.1) (leaves present.tree) (leaf_pointer leaf, x) x refl present.inside),
    no-clash text art.arena present.root present.tree present.alone (apart-there present.alone) (leaf_pointer leaf) x present.inside,
  )

-- such a leaf is exchanged for one with another entry of the text, between the same neighbours
pub record IsExchangedFor {K V : Type 0} {P : ℕ} (text : K → List ℕ) (old new : Art (NodeArena K V P) (OpaqueNodePtr K V P)) (key : K) (value : V) (before : K × V) : Type 0 where
  pub art : IsArt text new.arena new.root
  pub entered : IsEntered text old.arena new.arena key value
  pub was : entry_at text old.arena (text key) ≡ Some before
  pub may : MayEnter text old.arena (text key)

pub exchanged : {K V : Type 0} {P : ℕ} {text : K → List ℕ} {old : Art (NodeArena K V P) (OpaqueNodePtr K V P)} {leaf : LeafPtr K V P} {key : K} {value : V} → IsArt text old.arena old.root → IsPresent text old leaf (text key) → (new : NodeArena K V P) (was now : LeafNode K V P) → held old.arena (leaf_pointer leaf) ≡ HeldLeaf was
    → Changes old.arena new (leaf_pointer leaf) (HeldLeaf now) → leaf_key now ≡ key → leaf_value now ≡ value → previous_key now ≡ previous_key was → next_key now ≡ next_key was → (before : K × V) → before.0 ≡ leaf_key was → before.1 ≡ leaf_value was
    → IsExchangedFor text old (record { arena = new; root = old.root }) key value before
exchanged {text = text} {old = old} {leaf = leaf} {key = key} {value = value} art present new was now is changes is_key is_value same_previous same_next before before_key before_value =
    let (node, there, has) = present-leaf present in
    let one = one-leaf (held old.arena (leaf_pointer leaf)) was node is there in
    let same_text = ap text is_key ∙ sym has ∙ ap (λ l. text (leaf_key l)) (sym one) in
    let found = leaf-of (leaf_at old.arena (slab_key leaf)) was is in
    let entered = replaced-entered text old.arena new (slab_key leaf) was now found changes same_text same_previous same_next old.root art in
    record {
      art = replaced-art text old.arena new (slab_key leaf) was now found changes same_text same_previous same_next old.root art;
      entered = subst (λ k. IsEntered text old.arena new k value) is_key (subst (IsEntered text old.arena new (leaf_key now)) is_value entered);
      was = present-entry present ∙ ap (λ l. Some (leaf_key l, leaf_value l)) (sym one) ∙ ap Some (λ i. (sym before_key i, sym before_value i));
      may = present-may present;
    }

-- a tree before and after an insert
module _ {K V : Type 0} {P : ℕ} (text : K → List ℕ) (is_key : K → Type 0) (old new : Art (NodeArena K V P) (OpaqueNodePtr K V P)) (art : IsArt text old.arena old.root) (keys : HasKeys text is_key old.arena) (key : K) (value : V) where
  grows-never : GrowsOnlyWhere old.arena new.arena (LacksRoomToInsert text old.arena old.root (text key)) → (count : ℕ) → HasEntryRoom old.arena (count + 1) → SameCapacity old.arena new.arena
  grows-never grows count has = no-growth old.arena new.arena (LacksRoomToInsert text old.arena old.root (text key)) (λ kind. enough-to-insert text old.arena old.root (text key) kind count art has) grows

  -- room that lasts where the text has an entry afterwards
  entered-lasts : IsArt text new.arena new.root → IsEntered text old.arena new.arena key value → GrowsOnlyWhere old.arena new.arena (LacksRoomToInsert text old.arena old.root (text key)) → (count : ℕ) → HasEntryRoom old.arena (count + 1) → HasEntryRoom new.arena count
  entered-lasts now entered grows count has = lasts-after-insert text old.arena new.arena old.root new.root (text key) count art now entered.others (grows-never grows count has) has (has-found text new.arena (text key) (key, value) entered.entry)

  -- the new entry is in its leaf
  module _ (root : OpaqueNodePtr K V P) (leaf : LeafPtr K V P) (same : new.root ≡ Some root) (inserts : InsertsNew text old.arena new.arena old.root key value (Ok (root, leaf))) where
    pub added-invariant : is_key key → IsArt text new.arena new.root × HasKeys text is_key new.arena
    added-invariant is = (subst (IsArt text new.arena) (sym same) inserts.art, keys-entered text is_key old.arena new.arena keys key value inserts.entered is)

    pub added-there : InsertsAt text old new key value (Ok leaf)
    added-there = record {
      leaf = inserts.leaf;
      absent = inserts.absent;
      entered = inserts.entered;
      no_refusal = inserts.no_refusal;
      refusal_due = tt;
      entry_back = tt;
      same_entries = tt;
      nodes_kept = tt;
      root_kept = tt;
      untouched = tt;
      no_room = tt;
      takes_no_memory = inserts.takes_no_memory;
      memory = inserts.memory;
      room_suffices = λ count has. tt;
      room_lasts = entered-lasts (subst (IsArt text new.arena) (sym same) inserts.art) inserts.entered inserts.memory;
    }

  -- or it is refused
  module _ (fault : InsertFault K V) (same : new.root ≡ old.root) (inserts : InsertsNew text old.arena new.arena old.root key value (Err fault)) where
    pub refused-invariant : IsArt text new.arena new.root × HasKeys text is_key new.arena
    refused-invariant = (subst (IsArt text new.arena) (sym same) (art-same text old.arena new.arena inserts.nodes_kept old.root art), keys-same text is_key old.arena new.arena keys inserts.same_entries)

    pub refused-there : InsertsAt text old new key value (Err fault)
    refused-there = record {
      leaf = tt;
      absent = tt;
      entered = tt;
      no_refusal = tt;
      refusal_due = inserts.refusal_due;
      entry_back = inserts.entry_back;
      same_entries = inserts.same_entries;
      nodes_kept = inserts.nodes_kept;
      root_kept = same;
      untouched = λ other. (let arena = inserts.untouched other in λ i. record { arena = arena i; root = same i });
      no_room = inserts.no_room;
      takes_no_memory = inserts.takes_no_memory;
      memory = inserts.memory;
      room_suffices = λ count has due. (let (kind, lacks) = inserts.no_room due in enough-to-insert text old.arena old.root (text key) kind count art has lacks);
      room_lasts = λ count has. lasts-where-kept text old.arena new.arena old.root count art inserts.nodes_kept (grows-never inserts.memory count has) has;
    }

  -- an entry that replaces another
  module _ (before : K × V) (now : IsExchangedFor text old new key value before) where
    pub replaced-invariant : is_key key → IsArt text new.arena new.root × HasKeys text is_key new.arena
    replaced-invariant is = (now.art, keys-entered text is_key old.arena new.arena keys key value now.entered is)

    pub replaced-there : SameRoom old.arena new.arena → ReplacesEntry text old new key value before
    replaced-there room =
        let grows : GrowsOnlyWhere old.arena new.arena (LacksRoomToInsert text old.arena old.root (text key)) = λ kind. inl (same-capacity old.arena new.arena room kind) in
        record { replaced = sym now.was; entered = now.entered; no_refusal = now.may; takes_no_memory = room; memory = grows; room_lasts = entered-lasts now.art now.entered grows }

-- what is found or added
module _ {K V : Type 0} {P : ℕ} {text : K → List ℕ} {old : Art (NodeArena K V P) (OpaqueNodePtr K V P)} {key : K} {made : V → Type 0} where
  pub finds-present : (leaf : LeafPtr K V P) → IsPresent text old leaf (text key) → FindsOrInserts text old old key made (Ok leaf)
  finds-present leaf present =
      let (node, is, has) = present-leaf present in
      record {
        found = inl ((leaf_key node, leaf_value node), present-entry present, refl, record { leaf = node; is_held = is; key = refl; value = refl });
        present_kept = λ present. refl;
        no_refusal = present-may present;
        refusal_due = tt;
        entry_back = tt;
        same_entries = tt;
        nodes_kept = tt;
        root_kept = tt;
        no_room = tt;
        memory = λ kind. inl refl;
      }

  pub finds-added : {new : Art (NodeArena K V P) (OpaqueNodePtr K V P)} (value : V) → made value → (result : Result (LeafPtr K V P) (InsertFault K V)) → InsertsAt text old new key value result → FindsOrInserts text old new key made result
  finds-added value is_made (Ok leaf) inserts = record {
    found = inr (value, is_made, inserts.absent, inserts.entered, inserts.leaf);
    present_kept = λ present. absurd (present inserts.absent);
    no_refusal = inserts.no_refusal;
    refusal_due = tt;
    entry_back = tt;
    same_entries = tt;
    nodes_kept = tt;
    root_kept = tt;
    no_room = tt;
    memory = inserts.memory;
  }
  finds-added value is_made (Err fault) inserts = record {
    found = tt;
    present_kept = tt;
    no_refusal = tt;
    refusal_due = inserts.refusal_due;
    entry_back = (inserts.entry_back.0, subst made (sym inserts.entry_back.1) is_made);
    same_entries = inserts.same_entries;
    nodes_kept = inserts.nodes_kept;
    root_kept = inserts.root_kept;
    no_room = inserts.no_room;
    memory = inserts.memory;
  }
