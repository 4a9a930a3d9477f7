-- Insertion: the subtree toward which the rest of a key leads.
use Rattle.art_steps.proofs.Names.{◌≡◌, ◌∙◌, ◌⊎◌, ℕ, ◌+◌, ◌<◌, List, ◌∷◌, ◌++◌, length, drop, [], Contains, Option, Some, None, slice_get, refl, sym, ap, subst, inl, inr, option_and_then, option_map_or, eqb_tells, Contains-append_left, Contains-append_right, slice_get_within, child_at, OpaqueNodePtr, NodeArena, HeldInner, held, AllStandIn, TreeAt, Tree, Leaf, Inner, Branches, NoBranch, Branch, branch_roots, root_of, leaves, branch_leaves, IsSound, AreSound, join, HasLeafText, toward, toward_under, InnerNode}
use Rattle.art_search.proofs.HeldParts.{inner-part}
use Rattle.art_steps.proofs.SharedLemmas.BranchLemmas.{sound-split, stand-split}

-- a child that a byte leads to: the rest has that byte
pub record HasByte {H : Type 0} (children : List (ℕ × H)) (rest : List ℕ) (n : ℕ) (child : H) : Type 0 where
  pub byte : ℕ
  pub at : slice_get rest n ≡ Some byte
  pub child_is : child_at children byte ≡ Some child
  pub within : n < length rest

pub child-byte : {H : Type 0} (children : List (ℕ × H)) (rest : List ℕ) (n : ℕ) (child : H) → option_and_then (child_at children) (slice_get rest n) ≡ Some child → HasByte children rest n child
child-byte {H} children rest n child is = by_byte (slice_get rest n) refl is
  where
    by_byte : (found : Option ℕ) → slice_get rest n ≡ found → option_and_then (child_at children) found ≡ Some child → HasByte children rest n child
    by_byte None at some = absurd (cc)
    by_byte (Some byte) at some = record { byte = byte; at = at; child_is = some; within = slice_get_within rest n byte at }

module _ {H : Type 0} where
  -- the branches around the one under a byte
  pub record IsSplit (branches : Branches H) (byte : ℕ) (child : H) : Type 0 where
    pub before : Branches H
    pub tree : Tree H
    pub after : Branches H
    pub at_root : root_of tree ≡ child
    pub whole : join before (Branch byte tree after) ≡ branches
    pub toward_is : (rest : List ℕ) (other : Tree H) → toward_under byte rest branches other ≡ toward rest tree

  pub split-at : (branches : Branches H) (byte : ℕ) (child : H) → child_at (branch_roots branches) byte ≡ Some child → IsSplit branches byte child
  split-at NoBranch byte child is = absurd (cc)
  split-at (Branch b tree others) byte child is = elim (eqb_tells b byte) [
    | inl same ↦
        let one : Some (root_of tree) ≡ Some child = rw same.0 at is in
        record { before = NoBranch; tree = tree; after = others; at_root = cc; whole = ap (λ z. Branch z tree others) (sym same.1); toward_is = λ rest other. rw same.0 refl }
    | inr differ ↦
        let later : child_at (branch_roots others) byte ≡ Some child = rw differ.0 at is in
        let found = split-at others byte child later in
        record { before = Branch b tree found.before; tree = found.tree; after = found.after; at_root = found.at_root; whole = ap (Branch b tree) found.whole; toward_is = λ rest other. rw differ.0 (found.toward_is rest other) }
  ]

  -- where no branch is under the byte, the search ends
  under-none : (branches : Branches H) (byte : ℕ) (rest : List ℕ) (other : Tree H) → child_at (branch_roots branches) byte ≡ None → toward_under byte rest branches other ≡ other
  under-none NoBranch byte rest other none = refl
  under-none (Branch b tree others) byte rest other none = elim (eqb_tells b byte) [
    | inl same ↦ let wrong : Some (root_of tree) ≡ None = rw same.0 at none in absurd (cc)
    | inr differ ↦ let later : child_at (branch_roots others) byte ≡ None = rw differ.0 at none in rw differ.0 (under-none others byte rest other later)
  ]

  mutual
    -- what stands there stands in the tree
    pub toward-leaf : (rest : List ℕ) (tree : Tree H) (leaf : H × List ℕ) → Contains (leaves (toward rest tree)) leaf → Contains (leaves tree) leaf
    toward-leaf rest (Leaf pointer text) leaf inside = inside
    toward-leaf rest (Inner pointer prefix branches) leaf inside =
        elim (slice_get rest (length prefix)) as (λ next. Contains (leaves (option_map_or (λ byte. toward_under byte (drop (length prefix + 1) rest) branches (Inner pointer prefix branches)) next (Inner pointer prefix branches))) leaf → Contains (branch_leaves branches) leaf) [
          | None ↦ λ here. here
          | Some byte ↦ λ here. elim (under-leaf byte (drop (length prefix + 1) rest) branches (Inner pointer prefix branches) leaf here) [ inl among ↦ among | inr whole ↦ whole ]
        ] inside

    under-leaf : (byte : ℕ) (rest : List ℕ) (branches : Branches H) (other : Tree H) (leaf : H × List ℕ) → Contains (leaves (toward_under byte rest branches other)) leaf → Contains (branch_leaves branches) leaf ⊎ Contains (leaves other) leaf
    under-leaf byte rest NoBranch other leaf inside = inr inside
    under-leaf byte rest (Branch b below others) other leaf inside = elim (eqb_tells b byte) [
      | inl same ↦
          let here : Contains (leaves (toward rest below)) leaf = rw same.0 at inside in
          inl (Contains-append_left (leaves below) (branch_leaves others) leaf (toward-leaf rest below leaf here))
      | inr differ ↦
          let later : Contains (leaves (toward_under byte rest others other)) leaf = rw differ.0 at inside in
          elim (under-leaf byte rest others other leaf later) [
            | inl among ↦ inl (Contains-append_right (leaves below) (branch_leaves others) leaf among)
            | inr whole ↦ inr whole
          ]
    ]

  -- a text of a leaf there is one of a leaf of the tree
  pub toward-text : (rest : List ℕ) (tree : Tree H) (text : List ℕ) → HasLeafText (toward rest tree) text → HasLeafText tree text
  toward-text rest tree text (pointer, inside) = (pointer, toward-leaf rest tree (pointer, text) inside)

  -- the next byte leads to a child
  pub toward-child : (pointer : H) (prefix : List ℕ) (branches : Branches H) (byte : ℕ) (child : H) (split : IsSplit branches byte child) (rest : List ℕ) → slice_get rest (length prefix) ≡ Some byte → toward rest (Inner pointer prefix branches) ≡ toward (drop (length prefix + 1) rest) split.tree
  toward-child pointer prefix branches byte child split rest at =
      ap (λ next. option_map_or (λ b. toward_under b (drop (length prefix + 1) rest) branches (Inner pointer prefix branches)) next (Inner pointer prefix branches)) at
      ∙ split.toward_is (drop (length prefix + 1) rest) (Inner pointer prefix branches)

  -- or there is none
  toward-none : (pointer : H) (prefix : List ℕ) (branches : Branches H) (rest : List ℕ) → option_and_then (child_at (branch_roots branches)) (slice_get rest (length prefix)) ≡ None → toward rest (Inner pointer prefix branches) ≡ Inner pointer prefix branches
  toward-none pointer prefix branches rest none =
      elim (slice_get rest (length prefix)) as (λ next. option_and_then (child_at (branch_roots branches)) next ≡ None → option_map_or (λ byte. toward_under byte (drop (length prefix + 1) rest) branches (Inner pointer prefix branches)) next (Inner pointer prefix branches) ≡ Inner pointer prefix branches) [
        | None ↦ λ absent. refl
        | Some byte ↦ λ absent. under-none branches byte (drop (length prefix + 1) rest) (Inner pointer prefix branches) absent
      ] none

module _ {K V : Type 0} {P : ℕ} (text : K → List ℕ) (arena : NodeArena K V P) (pointer : OpaqueNodePtr K V P) (rest : List ℕ) (found : TreeAt text arena pointer) where
  -- the tree of the child toward which the rest leads
  pub record IsToward (child : OpaqueNodePtr K V P) (left : List ℕ) : Type 0 where
    pub below : TreeAt text arena child
    pub same : toward rest found.tree ≡ toward left below.tree

  pub child-toward : (node : InnerNode (OpaqueNodePtr K V P)) (child : OpaqueNodePtr K V P) → held arena pointer ≡ HeldInner node → option_and_then (child_at node.children) (slice_get rest node.prefix_len) ≡ Some child → IsToward child (drop (node.prefix_len + 1) rest)
  child-toward node child holds some =
      let part = inner-part text arena pointer node found.tree found.at_root found.stands holds in
      let sound = subst (IsSound found.path) part.is found.sound in
      let as_long = part.shows.prefix_len in
      let next = child-byte node.children rest node.prefix_len child some in
      let split = split-at part.branches next.byte child (ap (λ c. child_at c next.byte) (sym part.shows.children) ∙ next.child_is) in
      let stands = stand-split text arena split.before (Branch next.byte split.tree split.after) (subst (AllStandIn text arena) (sym split.whole) part.stand) in
      let sounds = sound-split (found.path ++ part.prefix) split.before (Branch next.byte split.tree split.after) (subst (AreSound (found.path ++ part.prefix)) (sym split.whole) sound.2) in
      record {
        below = record { tree = split.tree; path = (found.path ++ part.prefix) ++ next.byte ∷ []; at_root = split.at_root; stands = stands.1.0; sound = sounds.1.0 };
        same = ap (toward rest) part.is ∙ toward-child pointer part.prefix part.branches next.byte child split rest (ap (slice_get rest) (sym as_long) ∙ next.at) ∙ ap (λ n. toward (drop (n + 1) rest) split.tree) (sym as_long);
      }

  pub none-toward : (node : InnerNode (OpaqueNodePtr K V P)) → held arena pointer ≡ HeldInner node → option_and_then (child_at node.children) (slice_get rest node.prefix_len) ≡ None → toward rest found.tree ≡ found.tree
  none-toward node holds none =
      let part = inner-part text arena pointer node found.tree found.at_root found.stands holds in
      ap (toward rest) part.is
      ∙ toward-none pointer part.prefix part.branches rest (ap (λ c. option_and_then (child_at c) (slice_get rest (length part.prefix))) (sym part.shows.children) ∙ ap (λ n. option_and_then (child_at node.children) (slice_get rest n)) (sym part.shows.prefix_len) ∙ none)
      ∙ sym part.is
