-- Removal: a leaf that a search finds, and that is removed from its list and from its arena.
use Rattle.art_tree.proofs.Names.{LeafPtr, ◌≡◌, ◌≢◌, ◌∙◌, ℕ, ◌≤◌, ◌+◌, length, List, [], ◌∷◌, ◌++◌, All, Option, Some, None, refl, sym, ap, subst, inl, inr, arith, Ok, Err, Result, All-cons, All-contains, All-head, All-tail, Contains-append_right, NodeType, least_children, same_or_differ, leaf_key, leaf_value, node_kind, opaque_key, opaque_pointer, OpaqueNodePtr, LeafNode, NodeArena, HeldLeaf, Nothing, held, held_leaf, room, Changes, SameRoom, SameOtherRoom, AreDistinct, HoldsLeaf, IsKnit, SameButLinks, IsLinkedList, IsLinkedAfter, leaf_at, Leaf, IsAlone, IsArt, entry_at, HasOneLess, FreesOne, IsAtPath, IsTaken, StaysAt, IsLeft, RemovesEntry, RemovesFreely, FreesOneEach, leaf_pointer, TreePath, leaf_kind, by_option, the_one, LeafKind, Node16, Node256, Node4, Node48, InnerNode, Root, ReachesLeaf}
use Rattle.art_steps.proofs.SharedLemmas.DictionaryLemmas.{empty-entry, held-entry, leaf-of-entry}
use Rattle.art_steps.proofs.InsertLemmas.NodeLemmas.{one-leaf}
use Rattle.art_steps.proofs.SharedLemmas.RoomLemmas.{same-capacity, same-room}
use Rattle.art_links.proofs.HeldNodes.{cases_held, cases_pointer, leaf-of}
use Rattle.art_tree.proofs.SharedLemmas.TreeLaws.{apart-there}
use Rattle.art_tree.proofs.RemoveLemmas.WayContexts.{leaf-root}

-- the others of a list of different members are not the one between them
apart-from : {A : Type 0} (front : List A) (this : A) (back : List A) → AreDistinct (front ++ this ∷ back) → All (λ other. other ≢ this) (front ++ back)
apart-from [] this back distinct = distinct.0
apart-from (first ∷ front) this back distinct =
    let differ : this ≢ first = All-contains (λ other. other ≢ first) (front ++ this ∷ back) this distinct.0 (Contains-append_right front (this ∷ back) this (0, omega arith, refl)) in
    All-cons (λ other. other ≢ this) first (front ++ back) (λ same. differ (sym same)) (apart-from front this back distinct.1)

-- a leaf is removed from its list, and then from the arena
module _ {K V : Type 0} {P : ℕ} (old linked : NodeArena K V P) (this : ℕ) (same : SameButLinks old linked) where
  -- it is still held when it is out of its list
  pub still-held : IsKnit old this → HoldsLeaf linked this
  still-held knit none =
      by_option (leaf_at old this) (⊥) (λ is. knit.held (ap held_leaf is)) (λ leaf is. let wrong : HeldLeaf (same.leaf this leaf is).0 ≡ Nothing = sym (ap held_leaf (same.leaf this leaf is).1) ∙ none in absurd (cc))

  -- its entry is the one that it had
  pub taken-entry : (taken was : LeafNode K V P) → held linked (opaque_pointer LeafKind this) ≡ HeldLeaf taken → held old (opaque_pointer LeafKind this) ≡ HeldLeaf was → (entry : K × V) → entry.0 ≡ leaf_key taken → entry.1 ≡ leaf_value taken → entry ≡ (leaf_key was, leaf_value was)
  taken-entry taken was is had entry key value =
      let after = same.leaf this was (leaf-of (leaf_at old this) was had) in
      let one : taken ≡ after.0 = one-leaf (held linked (opaque_pointer LeafKind this)) taken after.0 is (ap held_leaf after.1) in
      λ i. ((key ∙ ap leaf_key one ∙ after.2) i, (value ∙ ap leaf_value one ∙ after.3) i)

  module _ (new : NodeArena K V P) (changes : Changes linked new (opaque_pointer LeafKind this) Nothing) where
    -- a list without the leaf stays linked
    list-less : (before : Option ℕ) (keys : List ℕ) → All (λ other. other ≢ this) keys → IsLinkedAfter linked before keys → IsLinkedAfter new before keys
    list-less before [] apart is_linked = tt
    list-less before (key ∷ keys) apart ((leaf, at, previous, next), rest) =
        let other : opaque_pointer {K = K} {V = V} {P = P} LeafKind key ≢ opaque_pointer LeafKind this = λ one. All-head (λ k. k ≢ this) key keys apart (ap opaque_key one) in
        ((leaf, leaf-of (leaf_at new key) leaf (changes.others (opaque_pointer LeafKind key) other ∙ ap held_leaf at), previous, next), list-less (Some key) keys (All-tail (λ k. k ≢ this) key keys apart) rest)

    pub left-list : (left right : List ℕ) → IsLinkedList old (left ++ this ∷ right) → IsLinkedList linked (left ++ right) → IsLinkedList new (left ++ right)
    left-list left right was is = record { distinct = is.distinct; is_linked = list-less None (left ++ right) (apart-from left this right was.distinct) is.is_linked }

    -- all else stays
    pub others-left : (pointer : OpaqueNodePtr K V P) → pointer ≢ opaque_pointer LeafKind this → StaysAt old new pointer
    others-left pointer differ =
        let stays = changes.others pointer differ in
        record {
          nothing = λ none. stays ∙ same.nothing pointer none;
          keeps = record {
            inner = λ node is. stays ∙ same.inner pointer node is;
            leaf = λ other is.
                let kind = leaf_kind old (node_kind pointer) (opaque_key pointer) other is in
                let place : opaque_pointer LeafKind (opaque_key pointer) ≡ pointer = λ i. record { node_type = (sym kind) i; key = opaque_key pointer; leaf = record {} } in
                let after = same.leaf (opaque_key pointer) other (leaf-of (leaf_at old (opaque_key pointer)) other (ap (held old) place ∙ is)) in
                (after.0, stays ∙ ap (held linked) (sym place) ∙ ap held_leaf after.1, after.2, after.3);
          };
        }

-- no kind has less spare capacity, where a leaf is deallocated
module _ {K V : Type 0} {P : ℕ} (old linked new : NodeArena K V P) where
  pub no-less-room : SameRoom old linked → room linked LeafKind ≤ room new LeafKind → SameOtherRoom linked new LeafKind → (kind : NodeType) → room old kind ≤ room new kind
  no-less-room stays leaf others Node4 = omega (arith, same-room old linked stays Node4, others Node4 (λ e. cc))
  no-less-room stays leaf others Node16 = omega (arith, same-room old linked stays Node16, others Node16 (λ e. cc))
  no-less-room stays leaf others Node48 = omega (arith, same-room old linked stays Node48, others Node48 (λ e. cc))
  no-less-room stays leaf others Node256 = omega (arith, same-room old linked stays Node256, others Node256 (λ e. cc))
  no-less-room stays leaf others LeafKind = omega (arith, same-room old linked stays LeafKind, leaf)

-- one kind after the other has spare capacity for one node more at most
module _ {K V : Type 0} {P : ℕ} where
  pub frees-after : (old mid new : NodeArena K V P) (kind : NodeType) → SameRoom old mid → FreesOne mid new kind → FreesOne old new kind
  frees-after old mid new kind stays frees = record {
    one_more = omega (arith, same-room old mid stays kind, frees.one_more);
    others = λ other differ. frees.others other differ ∙ same-room old mid stays other;
    capacity = λ other. frees.capacity other ∙ same-capacity old mid stays other;
  }

  pub frees-one : (old new : NodeArena K V P) (kind : NodeType) → FreesOne old new kind → FreesOneEach old new
  frees-one old new kind frees other = elim (same_or_differ other kind) [
    | inl same ↦ subst (λ k. room new k ≤ room old k + 1) (sym same) frees.one_more
    | inr differ ↦ omega (arith, frees.others other differ)
  ]

  -- a leaf, and then an inner node
  pub frees-two : (old without joined new last : NodeArena K V P) (kind : NodeType) → kind ≢ LeafKind → FreesOne old without LeafKind → SameRoom without joined → FreesOne joined new kind → SameRoom new last → FreesOneEach old last
  frees-two old without joined new last kind inner leaf stays node ends other = elim (same_or_differ other LeafKind) [
    | inl same ↦ subst (λ k. room last k ≤ room old k + 1) (sym same) (omega (arith, leaf.one_more, same-room without joined stays LeafKind, node.others LeafKind (λ e. inner (sym e)), same-room new last ends LeafKind))
    | inr differ ↦ omega (arith, leaf.others other differ, same-room without joined stays other, frees-one joined new kind node other, same-room new last ends other)
  ]

  -- a leaf whose parent has more than the fewest children of its kind
  pub frees-leaf : (old reserved without new last : NodeArena K V P) (parent top : OpaqueNodePtr K V P) (node now : InnerNode (OpaqueNodePtr K V P)) → SameRoom old reserved → FreesOne reserved without LeafKind
      → HasOneLess without new parent node now top → length node.children ≢ least_children (node_kind parent) → SameRoom new last → FreesOneEach old last
  frees-leaf old reserved without new last parent top node now stays leaf less more ends other = elim less [
    | inl cutting ↦ omega (arith, same-room old reserved stays other, frees-one reserved without LeafKind leaf other, same-room without new cutting.same_room other, same-room new last ends other)
    | inr shrunk ↦ absurd (more shrunk.least)
  ]

-- results whose other type is given
abbrev pub okay : (E : Type 0) {T : Type 0} → T → Result T E
okay E x = Ok x

abbrev pub failed : (T : Type 0) {E : Type 0} → E → Result T E
failed T e = Err e

-- a removal that takes no memory
pub frees-entry : {K V E : Type 0} {P : ℕ} {text : K → List ℕ} {old new : NodeArena K V P} {root : OpaqueNodePtr K V P} {x : List ℕ} {removed : Option (OpaqueNodePtr K V P) × (K × V)} → RemovesFreely text old new x removed → RemovesEntry text old new root x (okay E removed)
frees-entry is = record { removed = is.is_removed; refused = tt; nodes_kept = tt; takes_no_memory = λ enough. is.frees; no_room = tt; memory = λ kind. inl (is.capacity kind) }

pub frees-entry-at : {K V E : Type 0} {P : ℕ} {text : K → List ℕ} {old new : NodeArena K V P} {root : OpaqueNodePtr K V P} {x y : List ℕ} {removed : Option (OpaqueNodePtr K V P) × (K × V)} → x ≡ y → RemovesFreely text old new x removed → RemovesEntry text old new root y (okay E removed)
frees-entry-at {E = E} {text = text} {old = old} {new = new} {root = root} {removed = removed} same is = subst (λ z. RemovesEntry text old new root z (okay E removed)) same (frees-entry is)

-- a leaf to which the path has no step is alone
pub root-reached : {K V : Type 0} {P : ℕ} {text : K → List ℕ} {arena : NodeArena K V P} {root : OpaqueNodePtr K V P} {leaf : LeafPtr K V P} {path : TreePath K V P} {x : List ℕ} → ReachesLeaf text arena root leaf path x → path ≡ Root → IsAlone text arena root (Leaf (leaf_pointer leaf) x)
root-reached {text = text} {arena = arena} {root = root} {leaf = leaf} {x = x} at none =
    subst (IsAlone text arena root) (leaf-root at.tree (leaf_pointer leaf) x (subst (λ path. IsAtPath at.tree (leaf_pointer leaf) path x) none at.at_path)) at.alone

-- the only leaf of a tree is gone
module _ {K V : Type 0} {P : ℕ} {text : K → List ℕ} {old new : NodeArena K V P} {root at : OpaqueNodePtr K V P} {x : List ℕ} {entry : K × V} (alone : IsAlone text old root (Leaf at x)) (taken : IsTaken old new at entry) where
  -- and nothing is left
  root-empty : IsArt text new None
  root-empty p = elim (cases_pointer p at) [
    | inl same ↦ ap (held new) same ∙ taken.gone
    | inr differ ↦ elim (cases_held (held old p)) [
      | inl none ↦ (taken.others p differ).nothing none
      | inr was ↦ absurd (differ (sym (the_one at p (alone.no_others p was))))
    ]
  ]

  root-left : IsLeft text old new x
  root-left = record {
    gone = empty-entry text new root-empty x;
    others = λ y differ. empty-entry text new root-empty y ∙ sym (by_entry y differ (entry_at text old y) refl);
    leaves = λ p l is differ. (taken.others p (λ same. not-it p l is differ same)).keeps.leaf l is;
  }
    where
      by_entry : (y : List ℕ) → y ≢ x → (o : Option (K × V)) → entry_at text old y ≡ o → entry_at text old y ≡ None
      by_entry y differ None is = is
      by_entry y differ (Some entry) is =
          let found = leaf-of-entry text old root (Leaf at x) alone y entry is in
          absurd (differ (sym (ap (λ pair. pair.1) (the_one (at, x) (found.pointer, y) found.inside))))

      not-it : (p : OpaqueNodePtr K V P) (l : LeafNode K V P) → held old p ≡ HeldLeaf l → text (leaf_key l) ≢ x → p ≢ at
      not-it p l is differ same =
          let (own, own_held, own_text) = alone.is_tree.stands in
          differ (ap (λ leaf. text (leaf_key leaf)) (one-leaf (held old at) l own (ap (held old) (sym same) ∙ is) own_held) ∙ own_text)

  pub root-removed : RemovesFreely text old new x (None, entry)
  root-removed =
      let (own, own_held, own_text) = alone.is_tree.stands in
      record {
        is_removed = record {
          art = root-empty;
          left = root-left;
          was = ap (entry_at text old) (sym own_text) ∙ held-entry text old root (Leaf at x) alone (apart-there alone) at own own_held ∙ ap Some (sym (taken.entry own own_held));
        };
        frees = frees-one old new LeafKind taken.frees;
        capacity = taken.frees.capacity;
      }
