-- Room for so many changes of a tree: it suffices for each of them, and one fewer is left.
use Rattle.art_tree.proofs.Names.{◌≡◌, ◌≢◌, ◌⊎◌, ◌∙◌, ℕ, ◌+◌, ◌<◌, ◌≤◌, List, [], length, min, Contains, Option, Some, None, refl, sym, ap, subst, inl, inr, arith, ◌↔◌, cases_lt, NodeType, OpaqueNodePtr, NodeArena, capacity, leaf_count, room, SameCapacity, SameNodes, Tree, texts, IsWellFormed, IsAlone, IsArt, entry_at, HasEntry, SameOtherEntries, most_nodes, nodes_of, GrowsOnlyWhere, HasFewer, HasRoomOf, LacksRoomFor, LacksRoomToInsert, LacksRoomToRemove, text_is, LeafKind, Node16, Node256, Node4, Node48, texts-apart}
use Rattle.art_steps.specs.Room.{HasEntryRoom}
use Rattle.art_steps.proofs.SharedLemmas.DictionaryLemmas.{empty-entry, entry-of-text, text-of-entry}
use Rattle.art_steps.proofs.SharedLemmas.ExchangedTree.{alone-same}
use Rattle.art_tree.proofs.SharedLemmas.HeldCounts.{held_count, held-nodes, held-none, room-left}
use Rattle.art_tree.proofs.SharedLemmas.NodeBounds.{most-4, most-16, most-48, most-256, most-leaves, text-nodes}
use Rattle.art_tree.proofs.SharedLemmas.OneLeafLess.{by-one, one-text}
use Rattle.art_tree.proofs.SharedLemmas.TreeLaws.{apart-there, distinct-places}
use Rattle.art_tree.proofs.SharedLemmas.UniqueTree.{same-nodes}
use Rattle.art_steps.proofs.PlaceLemmas.WayPlaces.{some-text}

-- a tree of so many texts has no more nodes of a kind
pub most-nodes : {H : Type 0} (kind : NodeType) (tree : Tree H) (most : ℕ) → IsWellFormed tree → length (texts tree) ≤ most → nodes_of kind tree ≤ most_nodes kind most
most-nodes Node4 tree most sound few = most-4 tree sound most few
most-nodes Node16 tree most sound few = most-16 tree sound most few
most-nodes Node48 tree most sound few = most-48 tree sound most few
most-nodes Node256 tree most sound few = most-256 tree sound most few
most-nodes LeafKind tree most sound few = most-leaves tree sound most few

module _ {K V : Type 0} {P : ℕ} where
  -- spare capacity for so many nodes, or for as many as any tree has, is room
  pub reserved-room : (arena : NodeArena K V P) (kind : NodeType) (count : ℕ) → min count (most_nodes kind (leaf_count arena + count)) ≤ room arena kind → HasRoomOf kind arena count
  reserved-room arena kind count reserved = elim (cases_lt (most_nodes kind (leaf_count arena + count)) count) [
    | inr most ↦ inl (omega (arith, most, reserved))
    | inl fewer ↦ inr (λ tree sound few.
        let nodes = most-nodes kind tree (leaf_count arena + count) sound few in
        let left = room-left arena kind in
        omega (arith, fewer, reserved, nodes, left))
  ]

  -- room for more changes is room for fewer
  pub fewer-room : (arena : NodeArena K V P) (count : ℕ) → HasEntryRoom arena (count + 1) → HasEntryRoom arena count
  fewer-room arena count has kind = elim (has kind) [
    | inl some ↦ inl (omega (arith, some))
    | inr fits ↦ inr (λ tree sound few. fits tree sound (omega (arith, few)))
  ]

  -- it stays where spare capacity and capacity do, and there are as many entries
  pub kept-room : (old new : NodeArena K V P) (kind : NodeType) (count : ℕ) → room new kind ≡ room old kind → capacity new kind ≡ capacity old kind → leaf_count new ≡ leaf_count old → HasRoomOf kind old count → HasRoomOf kind new count
  kept-room old new kind count left wide same (inl some) = inl (omega (arith, some, left))
  kept-room old new kind count left wide same (inr fits) = inr (λ tree sound few. let most = fits tree sound (omega (arith, few, same)) in omega (arith, most, wide))

module _ {K V : Type 0} {P : ℕ} (text : K → List ℕ) where
  held-alone : (arena : NodeArena K V P) (root : OpaqueNodePtr K V P) (tree : Tree (OpaqueNodePtr K V P)) → IsAlone text arena root tree → (kind : NodeType) → held_count arena kind ≡ nodes_of kind tree
  held-alone arena root tree alone = held-nodes text arena root tree alone (distinct-places alone)

  module _ (arena : NodeArena K V P) (x : List ℕ) where
    module _ (root : OpaqueNodePtr K V P) (tree : Tree (OpaqueNodePtr K V P)) (alone : IsAlone text arena root tree) (now : Tree (OpaqueNodePtr K V P)) (sound : IsWellFormed now) where
      has-text : (y : List ℕ) → HasEntry text arena y → Contains (texts tree) y
      has-text y has = text-of-entry text arena root tree alone y has

      is-entry : (y : List ℕ) → Contains (texts tree) y → HasEntry text arena y
      is-entry y inside = entry-of-text text arena root tree alone (apart-there alone) y inside

      -- the tree with a text more has at most one node more of each kind
      with-text : ((y : List ℕ) → Contains (texts now) y ↔ (HasEntry text arena y ⊎ (y ≡ x))) → (kind : NodeType) → nodes_of kind now ≤ nodes_of kind tree + 1
      with-text are kind = by_entry (entry_at text arena x) refl
        where
          by_entry : (found : Option (K × V)) → entry_at text arena x ≡ found → nodes_of kind now ≤ nodes_of kind tree + 1
          by_entry None none =
              (by-one same-nodes texts-apart now tree x sound alone.is_tree.sound ((are x).1 (inr refl))
              (λ y inside. elim ((are y).0 inside) [ inl has ↦ inl (has-text y has) | inr is ↦ inr is ])
              (λ y inside. let has = is-entry y inside in ((are y).1 (inl has), λ is. has (ap (entry_at text arena) is ∙ none))) kind).0
          by_entry (Some entry) some =
              let has : HasEntry text arena x = λ none. (let wrong : Some entry ≡ None = sym some ∙ none in absurd (cc)) in
              let equal = same-nodes now tree kind sound alone.is_tree.sound (λ y. (
                λ inside. elim ((are y).0 inside) [ inl there ↦ has-text y there | inr is ↦ subst (Contains (texts tree)) (sym is) (has-text x has) ],
                λ inside. (are y).1 (inl (is-entry y inside)),
              )) in
              omega (arith, equal)

      -- and so has the tree with one less
      without-text : ((y : List ℕ) → Contains (texts now) y ↔ (HasEntry text arena y × (y ≢ x))) → (kind : NodeType) → nodes_of kind now ≤ nodes_of kind tree + 1
      without-text are kind = by_entry (entry_at text arena x) refl
        where
          by_entry : (found : Option (K × V)) → entry_at text arena x ≡ found → nodes_of kind now ≤ nodes_of kind tree + 1
          by_entry None none =
              let equal = same-nodes now tree kind sound alone.is_tree.sound (λ y. (
                λ inside. has-text y ((are y).0 inside).0,
                λ inside. let has = is-entry y inside in (are y).1 (has, λ is. has (ap (entry_at text arena) is ∙ none)),
              )) in
              omega (arith, equal)
          by_entry (Some entry) some =
              let has : HasEntry text arena x = λ none. (let wrong : Some entry ≡ None = sym some ∙ none in absurd (cc)) in
              (by-one same-nodes texts-apart tree now x alone.is_tree.sound sound (has-text x has)
              (λ y inside. elim (text_is y x) [ inl is ↦ inr is | inr differ ↦ inl ((are y).1 (is-entry y inside, differ)) ])
              (λ y inside. let both = (are y).0 inside in (has-text y both.0, both.1)) kind).1

    -- the tree after an insert has at most one node more of each kind than the arena holds
    insert-near : (root : Option (OpaqueNodePtr K V P)) → IsArt text arena root → (now : Tree (OpaqueNodePtr K V P)) → IsWellFormed now → ((y : List ℕ) → Contains (texts now) y ↔ (HasEntry text arena y ⊎ (y ≡ x))) → (kind : NodeType) → nodes_of kind now ≤ held_count arena kind + 1
    insert-near None nothing now sound are kind =
        let one = one-text same-nodes texts-apart now x sound (λ y inside. elim ((are y).0 inside) [ inl has ↦ absurd (has (empty-entry text arena nothing y)) | inr is ↦ is ]) kind in
        omega (arith, one)
    insert-near (Some root) (tree, alone) now sound are kind =
        let more = with-text root tree alone now sound are kind in
        let held = held-alone arena root tree alone kind in
        omega (arith, more, held)

    -- and so has the one after a removal
    remove-near : (root : Option (OpaqueNodePtr K V P)) → IsArt text arena root → (now : Tree (OpaqueNodePtr K V P)) → IsWellFormed now → ((y : List ℕ) → Contains (texts now) y ↔ (HasEntry text arena y × (y ≢ x))) → (kind : NodeType) → nodes_of kind now ≤ held_count arena kind + 1
    remove-near None nothing now sound are kind =
        let some = some-text [] now sound in
        absurd (((are some.text).0 some.inside).0 (empty-entry text arena nothing some.text))
    remove-near (Some root) (tree, alone) now sound are kind =
        let more = without-text root tree alone now sound are kind in
        let held = held-alone arena root tree alone kind in
        omega (arith, more, held)

  -- room for a change is room for the nodes that a tree needs which has no more nodes than that
  enough : (arena : NodeArena K V P) (root : Option (OpaqueNodePtr K V P)) (IsText : List ℕ → Type 0) (kind : NodeType) (count : ℕ) → IsArt text arena root → HasEntryRoom arena (count + 1) → (lacks : LacksRoomFor text arena root IsText kind) → ((kind : NodeType) → nodes_of kind lacks.tree ≤ held_count arena kind + 1) → ⊥
  enough arena root IsText kind count art has lacks near = by_room (has kind) (fewer-held root art lacks.needed)
    where
      fewer-held : (root : Option (OpaqueNodePtr K V P)) → IsArt text arena root → HasFewer text arena root kind (nodes_of kind lacks.tree) → held_count arena kind < nodes_of kind lacks.tree
      fewer-held None nothing fewer = let none = held-none text arena nothing kind in omega (arith, none, fewer)
      fewer-held (Some root) art (tree, alone, fewer) = let held = held-alone arena root tree alone kind in omega (arith, held, fewer)

      by_room : HasRoomOf kind arena (count + 1) → held_count arena kind < nodes_of kind lacks.tree → ⊥
      by_room (inl some) more = omega (arith, some, lacks.none)
      by_room (inr fits) more =
          let leaves = near LeafKind in
          let long = text-nodes lacks.tree in
          let most = fits lacks.tree lacks.sound (omega (arith, leaves, long)) in
          let left = room-left arena kind in
          omega (arith, most, left, lacks.none, more)

  pub enough-to-insert : (arena : NodeArena K V P) (root : Option (OpaqueNodePtr K V P)) (x : List ℕ) (kind : NodeType) (count : ℕ) → IsArt text arena root → HasEntryRoom arena (count + 1) → LacksRoomToInsert text arena root x kind → ⊥
  enough-to-insert arena root x kind count art has lacks = enough arena root _ kind count art has lacks (insert-near arena x root art lacks.tree lacks.sound lacks.texts_are)

  pub enough-to-remove : (arena : NodeArena K V P) (root : Option (OpaqueNodePtr K V P)) (x : List ℕ) (kind : NodeType) (count : ℕ) → IsArt text arena root → HasEntryRoom arena (count + 1) → LacksRoomToRemove text arena root x kind → ⊥
  enough-to-remove arena root x kind count art has lacks = enough arena root _ kind count art has lacks (remove-near arena x root art lacks.tree lacks.sound lacks.texts_are)

  -- a change takes at most one node of each kind, and no memory
  lasts : (old new : NodeArena K V P) (count : ℕ) → ((kind : NodeType) → held_count new kind ≤ held_count old kind + 1) → SameCapacity old new → HasEntryRoom old (count + 1) → HasEntryRoom new count
  lasts old new count near same has kind = elim (has kind) [
    | inl some ↦ (let before = room-left old kind in let after = room-left new kind in inl (omega (arith, some, before, after, near kind, same kind)))
    | inr fits ↦ inr (λ tree sound few. let leaves = near LeafKind in let most = fits tree sound (omega (arith, few, leaves)) in omega (arith, most, same kind))
  ]

  module _ (old new : NodeArena K V P) (root new_root : Option (OpaqueNodePtr K V P)) (x : List ℕ) (count : ℕ) (art : IsArt text old root) (new_art : IsArt text new new_root) (others : SameOtherEntries text old new x) (same : SameCapacity old new) (has : HasEntryRoom old (count + 1)) where
    pub lasts-after-insert : HasEntry text new x → HasEntryRoom new count
    lasts-after-insert there = lasts old new count (by_root new_root new_art) same has
      where
        by_root : (new_root : Option (OpaqueNodePtr K V P)) → IsArt text new new_root → (kind : NodeType) → held_count new kind ≤ held_count old kind + 1
        by_root None nothing kind = let none = held-none text new nothing kind in omega (arith, none)
        by_root (Some top) (tree, alone) kind =
            let apart_there = apart-there alone in
            let held = held-alone new top tree alone kind in
            let near = insert-near old x root art tree alone.is_tree.sound (λ y. (
              λ inside. by_text y (entry-of-text text new top tree alone apart_there y inside) (text_is y x),
              λ either. elim either [
                | inl was ↦ elim (text_is y x) [
                  | inl is ↦ text-of-entry text new top tree alone y (subst (HasEntry text new) (sym is) there)
                  | inr differ ↦ text-of-entry text new top tree alone y (λ none. was (sym (others y differ) ∙ none))
                ]
                | inr is ↦ text-of-entry text new top tree alone y (subst (HasEntry text new) (sym is) there)
              ],
            )) kind in
            omega (arith, held, near)
          where
            by_text : (y : List ℕ) → HasEntry text new y → (y ≡ x) ⊎ (y ≢ x) → HasEntry text old y ⊎ (y ≡ x)
            by_text y is_there (inl is) = inr is
            by_text y is_there (inr differ) = inl (λ none. is_there (others y differ ∙ none))

    pub lasts-after-removal : entry_at text new x ≡ None → HasEntryRoom new count
    lasts-after-removal gone = lasts old new count (by_root new_root new_art) same has
      where
        by_root : (new_root : Option (OpaqueNodePtr K V P)) → IsArt text new new_root → (kind : NodeType) → held_count new kind ≤ held_count old kind + 1
        by_root None nothing kind = let none = held-none text new nothing kind in omega (arith, none)
        by_root (Some top) (tree, alone) kind =
            let apart_there = apart-there alone in
            let held = held-alone new top tree alone kind in
            let near = remove-near old x root art tree alone.is_tree.sound (λ y. (
              λ inside.
                  let is_there = entry-of-text text new top tree alone apart_there y inside in
                  let differ : y ≢ x = λ is. is_there (ap (entry_at text new) is ∙ gone) in
                  (λ none. is_there (others y differ ∙ none), differ),
              λ both. text-of-entry text new top tree alone y (λ none. both.0 (sym (others y both.1) ∙ none)),
            )) kind in
            omega (arith, held, near)

  -- an arena whose nodes are kept holds as many
  pub kept-count : (old new : NodeArena K V P) (root : Option (OpaqueNodePtr K V P)) → IsArt text old root → SameNodes old new → (kind : NodeType) → held_count new kind ≡ held_count old kind
  kept-count old new root art kept kind = by_root root art
    where
      by_root : (root : Option (OpaqueNodePtr K V P)) → IsArt text old root → held_count new kind ≡ held_count old kind
      by_root None nothing = held-none text new (λ pointer. kept pointer ∙ nothing pointer) kind ∙ sym (held-none text old nothing kind)
      by_root (Some top) (tree, alone) = held-alone new top tree (alone-same text old new kept top tree alone) kind ∙ sym (held-alone old top tree alone kind)

  -- so its room stays
  pub lasts-where-kept : (old new : NodeArena K V P) (root : Option (OpaqueNodePtr K V P)) (count : ℕ) → IsArt text old root → SameNodes old new → SameCapacity old new → HasEntryRoom old (count + 1) → HasEntryRoom new count
  lasts-where-kept old new root count art kept same has = lasts old new count (λ kind. let equal = kept-count old new root art kept kind in omega (arith, equal)) same has

-- where no kind needs memory, none is taken
pub no-growth : {K V : Type 0} {P : ℕ} (old new : NodeArena K V P) (IsNeeded : NodeType → Type 0) → ((kind : NodeType) → IsNeeded kind → ⊥) → GrowsOnlyWhere old new IsNeeded → SameCapacity old new
no-growth old new IsNeeded never grows kind = elim (grows kind) [ inl same ↦ same | inr needed ↦ absurd (never kind needed) ]

-- a text has the entry that is found
pub has-found : {K V : Type 0} {P : ℕ} (text : K → List ℕ) (arena : NodeArena K V P) (x : List ℕ) (entry : K × V) → entry_at text arena x ≡ Some entry → HasEntry text arena x
has-found text arena x entry is none = let wrong : Some entry ≡ None = sym is ∙ none in absurd (cc)
