-- The nodes that a tree needs for a leaf less.
use Rattle.art_tree.proofs.Names.{◌≡◌, ◌≢◌, ◌∙◌, ℕ, ◌+◌, ◌≤◌, List, ◌∷◌, ◌++◌, length, map, Contains, Option, Some, sym, ap, subst, inl, inr, arith, kind_for, least_children, shrunk_kind, NodeType, node_kind, OpaqueNodePtr, NodeArena, room, Tree, Leaf, Inner, branch_roots, leaves, texts, plug, path_to, join, HasEntry, HasParents, one_if_same, LacksRoomToShrink, LacksRoomToRemove, Node4}
use Rattle.art_steps.proofs.InsertLemmas.AddedLeaf.{leaves-filled, leaves-parted}
use Rattle.art_tree.proofs.InsertLemmas.NeededNodes.{nodes-taken}
use Rattle.art_tree.proofs.RemoveLemmas.LeafParent.{LeafPlace, left_there, part_there, right_there}
use Rattle.art_tree.proofs.RemoveLemmas.RemainingTree.{dropped-sound, text-gone}
use Rattle.art_steps.proofs.SharedLemmas.NodeKinds.{kind-shrinks}
use Rattle.art_steps.proofs.SharedLemmas.BranchLemmas.{leaves-join}
use Rattle.art_steps.proofs.SharedLemmas.DictionaryLemmas.{AreApart, entry-of-text, leaf-with, text-of-entry}
use Rattle.art_steps.proofs.SharedLemmas.ExchangedSubtree.{sound-whole}
use Rattle.art_tree.proofs.SharedLemmas.NodeCounts.{more-around, one-same, shrunk-no-leaf, shrunk-other}
use Rattle.art_steps.proofs.SharedLemmas.TextLists.{text-or-new, text-stays}
use Rattle.art_tree.proofs.SharedLemmas.TreeLaws.{apart-there}

abbrev texts_of : {H : Type 0} → List (H × List ℕ) → List (List ℕ)
texts_of all = map (λ leaf. leaf.1) all

module _ {K V : Type 0} {P : ℕ} {text : K → List ℕ} {old : NodeArena K V P} {root leaf parent : OpaqueNodePtr K V P} {byte : ℕ} {higher : Option (OpaqueNodePtr K V P × ℕ)} {tree : Tree (OpaqueNodePtr K V P)} {parents : HasParents tree leaf parent byte higher} (place : LeafPlace text old root parents) where
  abbrev now : Tree (OpaqueNodePtr K V P)
  now = Inner parent parents.prefix (join parents.before parents.after)

  abbrev left : List (OpaqueNodePtr K V P × List ℕ)
  left = left_there parents

  abbrev right : List (OpaqueNodePtr K V P × List ℕ)
  right = right_there parents

  old-leaves : leaves (plug parents.upper (part_there parents)) ≡ left ++ (leaf, parents.text) ∷ right
  old-leaves = leaves-filled parents.upper parents.prefix parent parents.before byte leaf parents.text parents.after

  old-texts : texts (plug parents.upper (part_there parents)) ≡ texts_of (left ++ (leaf, parents.text) ∷ right)
  old-texts = ap texts_of old-leaves

  new-texts : texts (plug parents.upper now) ≡ texts_of (left ++ right)
  new-texts = ap texts_of (leaves-parted parents.upper now parents.before parents.after (leaves-join parents.before parents.after))

  is-text : (other : List ℕ) → Contains (texts (plug parents.upper now)) other → HasEntry text old other × (other ≢ parents.text)
  is-text other inside =
      let there = subst (λ all. Contains all other) new-texts inside in (
        entry-of-text text old root (plug parents.upper (part_there parents)) place.alone (apart-there place.alone) other (subst (λ all. Contains all other) (sym old-texts) (text-stays left right leaf parents.text other there)),
        λ same.
            let found = leaf-with (left ++ right) parents.text (subst (Contains (texts_of (left ++ right))) same there) in
            text-gone left right leaf parents.text (subst AreApart old-texts (apart-there place.alone)) found.0 found.1,
      )

  has-text : (other : List ℕ) → HasEntry text old other × (other ≢ parents.text) → Contains (texts (plug parents.upper now)) other
  has-text other (has, differ) = elim (text-or-new left right leaf parents.text other (subst (λ all. Contains all other) old-texts (text-of-entry text old root (plug parents.upper (part_there parents)) place.alone other has))) [
    | inl there ↦ subst (λ all. Contains all other) (sym new-texts) there
    | inr same ↦ absurd (differ same)
  ]

  -- it needs a node of the kind that the parent shrinks to
  pub removal-lacks : (kind : NodeType) → LacksRoomToShrink old parent kind → LacksRoomToRemove text old (Some root) parents.text kind
  removal-lacks kind lacks =
      let ((many, least), same, none) = lacks place.node place.is_held in
      let count = length (branch_roots (join parents.before parents.after)) in
      let two : 2 ≤ count = omega (arith, many, place.count) in
      let own : node_kind parent ≡ kind_for (count + 1) = place.smallest_kinds.0 ∙ ap (λ children. kind_for (length children)) (sym place.shows.children) ∙ ap kind_for place.count in
      let shrunk = shrunk_kind (node_kind parent) in
      let is : shrunk ≡ kind_for count = kind-shrinks count (node_kind parent) two own (sym place.count ∙ least) in
      let large : node_kind parent ≢ Node4 = λ small. omega (arith, many, least, ap least_children small) in
      let none_before : one_if_same shrunk (kind_for (count + 1)) ≡ 0 = ap (one_if_same shrunk) (sym own) ∙ shrunk-other (node_kind parent) large place.inner in
      let one_after : one_if_same shrunk (kind_for count) ≡ 1 = ap (one_if_same shrunk) (sym is) ∙ one-same shrunk in
      let before = nodes-taken shrunk parent parents.prefix parents.before byte leaf parents.text parents.after in
      subst (LacksRoomToRemove text old (Some root) parents.text) (sym same) (record {
        tree = plug parents.upper now;
        sound = sound-whole parents.upper (part_there parents) now place.alone.is_tree.sound (dropped-sound parents.before byte (Leaf leaf parents.text) parents.after (path_to parents.upper) parents.prefix parent place.sound parent two);
        texts_are = λ other. (is-text other, has-text other);
        needed = (plug parents.upper (part_there parents), place.alone, more-around shrunk parents.upper (part_there parents) now (omega (arith, before, none_before, shrunk-no-leaf (node_kind parent) place.inner, one_after)));
        none = subst (λ k. room old k ≡ 0) same none;
      })
