-- Removal: a part of a tree without one of its leaves.
use Rattle.art_tree.proofs.Names.{◌≡◌, ◌≢◌, ◌∙◌, ℕ, suc, ◌+◌, ◌<◌, ◌≤◌, ◌^◌, List, [], ◌∷◌, ◌++◌, length, length-append, map, Contains, Some, None, refl, sym, ap, subst, inl, inr, arith, append_assoc, append-nil, eq-eqb, ne_eqb, Contains-append_right, Contains-append_cases, ChildMap, IsAscending, IsAscendingFrom, key_bytes, child_at, without_child, OpaqueNodePtr, ascending_removed, child_at_removed, NodeArena, Tree, Leaf, Inner, Branches, NoBranch, Branch, branch_roots, root_of, leaves, branch_leaves, texts, branch_texts, places, branch_places, IsSound, AreSound, IsAlone, entry_at, HasSmallestKinds, HaveSmallestKinds, join, prefix-shorter, by_option, the_one}
use Rattle.art_steps.proofs.SharedLemmas.BranchLemmas.{roots-join, leaves-join, places-join, sound-join, one_branch, sound-split, smallest_kinds-join, smallest_kinds-split}
use Rattle.art_steps.proofs.SharedLemmas.DictionaryLemmas.{AreApart, leaf-of-entry, not-later}
use Rattle.art_steps.proofs.SharedLemmas.ExchangedSubtree.{before-byte}
use Rattle.art_steps.proofs.PlaceLemmas.WayPlaces.{branch-text}

-- the tree with these bytes and this byte before its own prefix; a leaf is as it was
abbrev pub with_upper : {H : Type 0} → List ℕ → ℕ → Tree H → Tree H
with_upper upper byte (Leaf pointer text) = Leaf pointer text
with_upper upper byte (Inner pointer lower branches) = Inner pointer (upper ++ byte ∷ lower) branches

-- one branch by its count
record IsOneBranch {H : Type 0} (branches : Branches H) : Type 0 where
  byte : ℕ
  tree : Tree H
  is : branches ≡ one_branch byte tree

module _ {H : Type 0} where
  one-branch : (branches : Branches H) → length (branch_roots branches) ≡ 1 → IsOneBranch branches
  one-branch NoBranch one = absurd (omega (arith, one))
  one-branch (Branch b t NoBranch) one = record { byte = b; tree = t; is = refl }
  one-branch (Branch b t (Branch c s others)) one = absurd (omega (arith, one))

  -- a text of branches is longer than the path to them
  branch-longer : (path : List ℕ) (branches : Branches H) → 0 < length (branch_roots branches) → AreSound path branches → (x : List ℕ) × Contains (branch_texts branches) x × (length path < length x)
  branch-longer path branches some sound =
      let (byte, has) = branch-text path branches some sound in
      (has.text, has.inside, omega (arith, ap length has.begins.1, length-append (path ++ byte ∷ []) has.begins.0, length-append path (byte ∷ [])))

  -- no child after a byte is under that byte
  kept-after : (low byte : ℕ) (back : ChildMap H) → byte < low → IsAscendingFrom low (key_bytes back) → without_child back byte ≡ back
  kept-after low byte [] below ascend = refl
  kept-after low byte (x ∷ back) below ascend =
      rw (ne_eqb x.0 byte (λ same. omega (arith, same, below, ascend.0))) (ap (λ rest. x ∷ rest) (kept-after (suc x.0) byte back (omega (arith, below, ascend.0)) ascend.2))

  -- without a byte the children before and after it are left
  without-one : (low : ℕ) (front : ChildMap H) (byte : ℕ) (child : H) (back : ChildMap H) → IsAscendingFrom low (key_bytes (front ++ (byte, child) ∷ back)) → without_child (front ++ (byte, child) ∷ back) byte ≡ front ++ back
  without-one low [] byte child back ascend = rw (eq-eqb byte byte refl) (kept-after (suc byte) byte back (omega arith) ascend.2)
  without-one low (x ∷ front) byte child back ascend =
      let above = before-byte (suc x.0) front byte child back ascend.2 in
      rw (ne_eqb x.0 byte (λ same. omega (arith, same, above))) (ap (λ rest. x ∷ rest) (without-one (suc x.0) front byte child back ascend.2))

  -- and the child under it is the one between them
  child-between : (low : ℕ) (front : ChildMap H) (byte : ℕ) (child : H) (back : ChildMap H) → IsAscendingFrom low (key_bytes (front ++ (byte, child) ∷ back)) → child_at (front ++ (byte, child) ∷ back) byte ≡ Some child
  child-between low [] byte child back ascend = rw (eq-eqb byte byte refl) refl
  child-between low (x ∷ front) byte child back ascend =
      let above = before-byte (suc x.0) front byte child back ascend.2 in
      rw (ne_eqb x.0 byte (λ same. omega (arith, same, above))) (child-between (suc x.0) front byte child back ascend.2)

module _ {H : Type 0} (before : Branches H) (byte : ℕ) (tree : Tree H) (after : Branches H) where
  -- without a branch there is one less
  pub dropped-count : length (branch_roots (join before (Branch byte tree after))) ≡ length (branch_roots (join before after)) + 1
  dropped-count = omega (
    arith,
    ap length (roots-join before (Branch byte tree after)),
    length-append (branch_roots before) ((byte, root_of tree) ∷ branch_roots after),
    ap length (roots-join before after),
    length-append (branch_roots before) (branch_roots after),
  )

  -- the others are sound as they were
  others-sound : (path : List ℕ) → AreSound path (join before (Branch byte tree after)) → AreSound path (join before after)
  others-sound path sound = let both = sound-split path before (Branch byte tree after) sound in sound-join path before after both.0 both.1.1

  -- one branch is left, and is under another byte
  pub record HasOneLeft : Type 0 where
    pub other : ℕ
    pub only : Tree H
    pub is : join before after ≡ one_branch other only
    pub differ : other ≢ byte
    pub fits : other < 256

  module _ (ascend : IsAscending (key_bytes (branch_roots (join before (Branch byte tree after))))) where
    ascend-parted : IsAscending (key_bytes (branch_roots before ++ (byte, root_of tree) ∷ branch_roots after))
    ascend-parted = subst (λ all. IsAscending (key_bytes all)) (roots-join before (Branch byte tree after)) ascend

    -- its byte is the one that the children are without
    pub dropped-roots : without_child (branch_roots (join before (Branch byte tree after))) byte ≡ branch_roots (join before after)
    dropped-roots =
        ap (λ all. without_child all byte) (roots-join before (Branch byte tree after))
        ∙ without-one 0 (branch_roots before) byte (root_of tree) (branch_roots after) ascend-parted
        ∙ sym (roots-join before after)

    pub dropped-child : child_at (branch_roots (join before (Branch byte tree after))) byte ≡ Some (root_of tree)
    dropped-child = ap (λ all. child_at all byte) (roots-join before (Branch byte tree after)) ∙ child-between 0 (branch_roots before) byte (root_of tree) (branch_roots after) ascend-parted

    left-ascend : IsAscending (key_bytes (branch_roots (join before after)))
    left-ascend = subst (λ all. IsAscending (key_bytes all)) dropped-roots (ascending_removed (branch_roots (join before (Branch byte tree after))) byte ascend)

    pub one-left : length (branch_roots (join before after)) ≡ 1 → HasOneLeft
    one-left count =
        let one = one-branch (join before after) count in
        let roots : branch_roots (join before after) ≡ (one.byte, root_of one.tree) ∷ [] = ap branch_roots one.is in
        let none : child_at ((one.byte, root_of one.tree) ∷ []) byte ≡ None =
        ap (λ all. child_at all byte) (sym roots ∙ sym dropped-roots) ∙ child_at_removed (branch_roots (join before (Branch byte tree after))) byte in
        record {
          other = one.byte;
          only = one.tree;
          is = one.is;
          differ = λ same. (let some : Some (root_of one.tree) ≡ None = rw (eq-eqb one.byte byte same) at none in absurd (cc));
          fits = (subst (λ all. IsAscending (key_bytes all)) roots left-ascend).1;
        }

  module _ (path prefix : List ℕ) (pointer : H) (sound : IsSound path (Inner pointer prefix (join before (Branch byte tree after)))) where
    -- what is left of a sound node is sound
    pub left-sound : AreSound (path ++ prefix) (join before after)
    left-sound = others-sound (path ++ prefix) sound.2

    -- and so is a node with it, where there is enough of it
    pub dropped-sound : (other : H) → 2 ≤ length (branch_roots (join before after)) → IsSound path (Inner other prefix (join before after))
    dropped-sound other enough = (enough, left-ascend sound.1, left-sound)

    module _ (other : ℕ) (only : Tree H) (one : join before after ≡ one_branch other only) where
      only-sound : IsSound ((path ++ prefix) ++ other ∷ []) only
      only-sound = (subst (AreSound (path ++ prefix)) one left-sound).0

      -- the one tree that is left is sound in the place of the node, with the node's prefix and its byte before its own
      pub joined-sound : IsSound path (with_upper prefix other only)
      joined-sound = by_only only only-sound
        where
          by_only : (t : Tree H) → IsSound ((path ++ prefix) ++ other ∷ []) t → IsSound path (with_upper prefix other t)
          by_only (Leaf p x) (begins, short) = (prefix-shorter path prefix x (prefix-shorter (path ++ prefix) (other ∷ []) x begins), short)
          by_only (Inner p lower branches) (enough, ascend, below) = (enough, ascend, subst (λ front. AreSound front branches) (append_assoc (path ++ prefix) (other ∷ []) lower ∙ append_assoc path prefix (other ∷ lower)) below)

      -- and that prefix is no longer than a text may be
      pub joined-short : ((x : List ℕ) → Contains (texts only) x → length x < 2 ^ 32) → (p : H) (lower : List ℕ) (branches : Branches H) → only ≡ Inner p lower branches → length prefix + (1 + length lower) < 2 ^ 32
      joined-short short p lower branches is =
          let node = subst (IsSound ((path ++ prefix) ++ other ∷ [])) is only-sound in
          let (x, inside, longer) = branch-longer (((path ++ prefix) ++ other ∷ []) ++ lower) branches (omega (arith, node.0)) node.2 in
          omega (
            arith,
            short x (subst (λ t. Contains (texts t) x) (sym is) inside),
            longer,
            length-append ((path ++ prefix) ++ other ∷ []) lower,
            length-append (path ++ prefix) (other ∷ []),
            length-append path prefix,
          )

module _ {H : Type 0} where
  -- the leaves and the pointers that are left are those of the one tree
  pub one-leaves : (before after : Branches H) (other : ℕ) (only : Tree H) → join before after ≡ one_branch other only → branch_leaves before ++ branch_leaves after ≡ leaves only
  one-leaves before after other only one = sym (leaves-join before after) ∙ ap branch_leaves one ∙ append-nil (leaves only)

  pub one-places : (before after : Branches H) (other : ℕ) (only : Tree H) → join before after ≡ one_branch other only → branch_places before ++ branch_places after ≡ places only
  one-places before after other only one = sym (places-join before after) ∙ ap branch_places one ∙ append-nil (places only)

  -- a tree with more before its prefix has the same root, leaves and pointers
  pub root-joined : (upper : List ℕ) (byte : ℕ) (part : Tree H) → root_of (with_upper upper byte part) ≡ root_of part
  root-joined upper byte (Leaf pointer text) = refl
  root-joined upper byte (Inner pointer lower branches) = refl

  pub leaves-joined : (upper : List ℕ) (byte : ℕ) (part : Tree H) → leaves (with_upper upper byte part) ≡ leaves part
  leaves-joined upper byte (Leaf pointer text) = refl
  leaves-joined upper byte (Inner pointer lower branches) = refl

  pub places-joined : (upper : List ℕ) (byte : ℕ) (part : Tree H) → places (with_upper upper byte part) ≡ places part
  places-joined upper byte (Leaf pointer text) = refl
  places-joined upper byte (Inner pointer lower branches) = refl

module _ {K V : Type 0} {P : ℕ} where
  -- and has the smallest kinds too
  pub smallest_kinds-joined : (upper : List ℕ) (byte : ℕ) (part : Tree (OpaqueNodePtr K V P)) → HasSmallestKinds part → HasSmallestKinds (with_upper upper byte part)
  smallest_kinds-joined upper byte (Leaf pointer text) smallest_kinds = smallest_kinds
  smallest_kinds-joined upper byte (Inner pointer lower branches) smallest_kinds = smallest_kinds

  -- the branches without one of them have the smallest kinds
  pub left-smallest_kinds : (before : Branches (OpaqueNodePtr K V P)) (byte : ℕ) (tree : Tree (OpaqueNodePtr K V P)) (after : Branches (OpaqueNodePtr K V P)) → HaveSmallestKinds (join before (Branch byte tree after)) → HaveSmallestKinds (join before after)
  left-smallest_kinds before byte tree after smallest_kinds = let both = smallest_kinds-split before (Branch byte tree after) smallest_kinds in smallest_kinds-join before after both.0 both.1.1

-- where no text is a prefix of another, the text of a leaf is not among the others
pub text-gone : {H : Type 0} (left right : List (H × List ℕ)) (leaf : H) (x : List ℕ) → AreApart (map (λ pair. pair.1) (left ++ (leaf, x) ∷ right)) → (p : H) → Contains (left ++ right) (p, x) → ⊥
text-gone [] right leaf x apart p inside = not-later (leaf, x) right leaf p x apart refl inside
text-gone (y ∷ left) right leaf x apart p inside = elim (Contains-append_cases (y ∷ []) (left ++ right) (p, x) inside) [
  | inl here ↦ not-later y (left ++ (leaf, x) ∷ right) p leaf x apart (the_one y (p, x) here) (Contains-append_right left ((leaf, x) ∷ right) (leaf, x) (0, omega arith, refl))
  | inr later ↦ text-gone left right leaf x (λ i j d earlier within. apart (suc i) (suc j) d (omega (arith, earlier)) (omega (arith, within))) p later
]

module _ {K V : Type 0} {P : ℕ} (text : K → List ℕ) (new : NodeArena K V P) where
  -- so the text of a leaf that a tree is without has no entry
  pub gone-entry : (root_now : OpaqueNodePtr K V P) (now : Tree (OpaqueNodePtr K V P)) → IsAlone text new root_now now → (tree : Tree (OpaqueNodePtr K V P)) → AreApart (texts tree) → (left right : List (OpaqueNodePtr K V P × List ℕ)) (leaf : OpaqueNodePtr K V P) (x : List ℕ)
      → leaves tree ≡ left ++ (leaf, x) ∷ right → leaves now ≡ left ++ right → entry_at text new x ≡ None
  gone-entry root_now now alone tree apart left right leaf x were are =
      by_option (entry_at text new x) (entry_at text new x ≡ None) (λ is. is) (λ entry is.
      let found = leaf-of-entry text new root_now now alone x entry is in
      absurd (text-gone left right leaf x (subst (λ all. AreApart (map (λ pair. pair.1) all)) were apart) found.pointer (subst (λ all. Contains all (found.pointer, x)) are found.inside)))
