-- Removal: a leaf of a tree and its parent.
use Rattle.art_tree.proofs.Names.{◌≡◌, ◌≢◌, ◌⊎◌, ◌∙◌, ℕ, ◌+◌, List, [], ◌∷◌, ◌++◌, length, Contains, Option, Some, refl, sym, ap, subst, inl, inr, arith, All-contains, Contains-append_left, Contains-append_right, Contains-append_cases, leaf_key, leaf_value, node_kind, opaque_key, OpaqueNodePtr, LeafNode, NodeArena, HeldInner, HeldLeaf, Nothing, held, AreDistinct, IsLinkedList, NodeStands, StandsIn, AllStandIn, Tree, Leaf, Inner, Branch, branch_roots, branch_leaves, places, branch_places, IsSound, IsAlone, plug, path_to, leaves_before, leaves_after, join, entry_at, HasParents, HasSmallestKinds, the_one, LeafKind, InnerNode}
use Rattle.art_steps.proofs.InsertLemmas.AddedLeaf.{leaves-filled}
use Rattle.art_steps.proofs.SharedLemmas.DictionaryLemmas.{held-entry}
use Rattle.art_tree.proofs.RemoveLemmas.RemainingTree.{dropped-count}
use Rattle.art_steps.proofs.SharedLemmas.ExchangedSubtree.{distinct-part, places-node, smallest_kinds-part, sound-part, stands-part}
use Rattle.art_search.proofs.DistinctLists.{AreDistinct-split}
use Rattle.art_steps.proofs.InsertLemmas.GapLemmas.{keys_of, keys-append}
use Rattle.art_steps.proofs.SharedLemmas.ParentLemmas.{inner-kind}
use Rattle.art_steps.proofs.InsertLemmas.NodeLemmas.{some-inner}
use Rattle.art_tree.proofs.SharedLemmas.TreeLaws.{apart-there, distinct-places}
use Rattle.art_steps.proofs.SharedLemmas.BranchLemmas.{stand-join, stand-split}

module _ {K V : Type 0} {P : ℕ} {leaf parent : OpaqueNodePtr K V P} {byte : ℕ} {higher : Option (OpaqueNodePtr K V P × ℕ)} {tree : Tree (OpaqueNodePtr K V P)} where
  -- the part of the tree with the node as its root
  abbrev pub part_there : HasParents tree leaf parent byte higher → Tree (OpaqueNodePtr K V P)
  part_there parents = Inner parent parents.prefix (join parents.before (Branch byte (Leaf leaf parents.text) parents.after))

  -- the leaves of the whole tree left and right of the leaf
  abbrev pub left_there : HasParents tree leaf parent byte higher → List (OpaqueNodePtr K V P × List ℕ)
  left_there parents = leaves_before parents.upper ++ branch_leaves parents.before

  abbrev pub right_there : HasParents tree leaf parent byte higher → List (OpaqueNodePtr K V P × List ℕ)
  right_there parents = branch_leaves parents.after ++ leaves_after parents.upper

  -- the leaf and the node, in the tree and in the arena
  pub record LeafPlace (text : K → List ℕ) (old : NodeArena K V P) (root : OpaqueNodePtr K V P) (parents : HasParents tree leaf parent byte higher) : Type 0 where
    pub alone : IsAlone text old root (plug parents.upper (part_there parents))
    pub stands : StandsIn text old (part_there parents)
    pub sound : IsSound (path_to parents.upper) (part_there parents)
    pub smallest_kinds : HasSmallestKinds (part_there parents)
    pub node : InnerNode (OpaqueNodePtr K V P)
    pub is_held : held old parent ≡ HeldInner node
    pub shows : NodeStands P node parents.prefix (join parents.before (Branch byte (Leaf leaf parents.text) parents.after))
    pub others_stand : AllStandIn text old (join parents.before parents.after)
    pub count : length node.children ≡ length (branch_roots (join parents.before parents.after)) + 1
    pub some_held : held old parent ≢ Nothing
    pub inner : node_kind parent ≢ LeafKind
    pub no_leaf : (l : LeafNode K V P) → held old parent ≡ HeldLeaf l → ⊥
    pub apart : parent ≢ leaf
    pub own : LeafNode K V P
    pub own_held : held old leaf ≡ HeldLeaf own
    pub own_text : text (leaf_key own) ≡ parents.text
    pub entry : entry_at text old parents.text ≡ Some (leaf_key own, leaf_value own)
    pub distinct : AreDistinct (places (plug parents.upper (part_there parents)))
    pub inside : Contains (places (part_there parents)) leaf
    pub is_linked : IsLinkedList old (keys_of (left_there parents) ++ opaque_key leaf ∷ keys_of (right_there parents))

  pub leaf-place : {text : K → List ℕ} {old : NodeArena K V P} {root : OpaqueNodePtr K V P} → IsAlone text old root tree → (parents : HasParents tree leaf parent byte higher) → LeafPlace text old root parents
  leaf-place {text = text} {old = old} {root = root} within parents =
      let part = part_there parents in
      let before = parents.before in
      let after = parents.after in
      let own_branch = Branch byte (Leaf leaf parents.text) after in
      let alone : IsAlone text old root (plug parents.upper part) = subst (IsAlone text old root) (sym parents.whole) within in
      let (node, is_held, shows, stand) = stands-part text old old parents.upper part alone.is_tree.stands in
      let (left_stand, ((own, own_held, own_text), right_stand)) = stand-split text old before own_branch stand in
      let no_leaf : (l : LeafNode K V P) → held old parent ≡ HeldLeaf l → ⊥ = λ l is. (let wrong : HeldInner node ≡ HeldLeaf l = sym is_held ∙ is in absurd (cc)) in
      record {
        alone = alone;
        stands = stands-part text old old parents.upper part alone.is_tree.stands;
        sound = sound-part parents.upper part alone.is_tree.sound;
        smallest_kinds = smallest_kinds-part parents.upper part alone.smallest_kinds;
        node = node;
        is_held = is_held;
        shows = shows;
        others_stand = stand-join text old before after left_stand right_stand;
        count = ap length shows.children ∙ dropped-count before byte (Leaf leaf parents.text) after;
        some_held = some-inner (held old parent) node is_held;
        inner = inner-kind old parent node is_held;
        no_leaf = no_leaf;
        apart = λ same. no_leaf own (ap (held old) same ∙ own_held);
        own = own;
        own_held = own_held;
        own_text = own_text;
        entry = ap (entry_at text old) (sym own_text) ∙ held-entry text old root (plug parents.upper part) alone (apart-there alone) leaf own own_held;
        distinct = distinct-places alone;
        inside = subst (λ all. Contains all leaf) (sym (places-node parent parents.prefix before byte (Leaf leaf parents.text) after)) (Contains-append_right (parent ∷ branch_places before) (leaf ∷ branch_places after) leaf (0, omega arith, refl));
        is_linked = subst (IsLinkedList old) (ap keys_of (leaves-filled parents.upper parents.prefix parent before byte leaf parents.text after) ∙ keys-append (left_there parents) ((leaf, parents.text) ∷ right_there parents)) alone.is_linked;
      }

  module _ (parents : HasParents tree leaf parent byte higher) where
    -- a place of the part that is neither the node's nor the leaf's
    pub record IsOther (q : OpaqueNodePtr K V P) : Type 0 where
      pub inside : Contains (places (part_there parents)) q
      pub not_leaf : q ≢ leaf
      pub not_parent : q ≢ parent

    pub is-other : AreDistinct (places (plug parents.upper (part_there parents))) → (q : OpaqueNodePtr K V P) → Contains (branch_places parents.before ++ branch_places parents.after) q → IsOther q
    is-other distinct q inside =
        let lefts = branch_places parents.before in
        let rights = branch_places parents.after in
        let same = places-node parent parents.prefix parents.before byte (Leaf leaf parents.text) parents.after in
        let apart = subst AreDistinct same (distinct-part parents.upper (part_there parents) distinct) in
        let later = AreDistinct-split lefts (leaf ∷ rights) apart.1 in
        let other : Contains (lefts ++ leaf ∷ rights) q → q ≢ leaf → IsOther q = λ there differ. record {
          inside = subst (λ all. Contains all q) (sym same) (Contains-append_right (parent ∷ []) (lefts ++ leaf ∷ rights) q there);
          not_leaf = differ;
          not_parent = All-contains (λ p. p ≢ parent) (lefts ++ leaf ∷ rights) q apart.0 there;
        } in
        elim (Contains-append_cases lefts rights q inside) [
          | inl left ↦ other (Contains-append_left lefts (leaf ∷ rights) q left) (λ at_leaf. later.2 q left (0, omega arith, sym at_leaf))
          | inr right ↦ other (Contains-append_right lefts (leaf ∷ rights) q (Contains-append_right (leaf ∷ []) rights q right)) (All-contains (λ p. p ≢ leaf) rights q later.1.0 right)
        ]

    -- each place of the part is the node's, the leaf's, or one of the other branches
    pub place-cases : (q : OpaqueNodePtr K V P) → Contains (places (part_there parents)) q → (q ≡ parent) ⊎ ((q ≡ leaf) ⊎ Contains (branch_places parents.before ++ branch_places parents.after) q)
    place-cases q inside =
        let lefts = branch_places parents.before in
        let rights = branch_places parents.after in
        elim (Contains-append_cases (parent ∷ []) (lefts ++ leaf ∷ rights) q (subst (λ all. Contains all q) (places-node parent parents.prefix parents.before byte (Leaf leaf parents.text) parents.after) inside)) [
          | inl here ↦ inl (sym (the_one parent q here))
          | inr below ↦ elim (Contains-append_cases lefts (leaf ∷ rights) q below) [
            | inl left ↦ inr (inr (Contains-append_left lefts rights q left))
            | inr from ↦ elim (Contains-append_cases (leaf ∷ []) rights q from) [
              | inl own ↦ inr (inl (sym (the_one leaf q own)))
              | inr right ↦ inr (inr (Contains-append_right lefts rights q right))
            ]
          ]
        ]
