-- How many nodes of a kind a tree of so many leaves has at most.
use Rattle.art_tree.proofs.Names.{◌≡◌, ◌≢◌, ◌∙◌, ℕ, ◌+◌, ◌*◌, ◌/◌, ◌≤◌, List, ◌∷◌, [], ◌++◌, length, length-append, refl, sym, ap, inl, inr, arith, cases_lt, length-map, kind_for, NodeType, same_or_differ, Tree, Leaf, Inner, Branches, NoBranch, Branch, branch_roots, leaves, branch_leaves, texts, IsSound, AreSound, IsWellFormed, one_if_same, nodes_of, branch_nodes_of, LeafKind, Node16, Node256, Node4, Node48}
use Rattle.art_tree.proofs.SharedLemmas.NodeCounts.{no-leaf-kind, one-same}
use Rattle.art_steps.proofs.SharedLemmas.NodeKinds.{by_kind, kind-4}

pub one-differ : (a b : NodeType) → a ≢ b → one_if_same a b ≡ 0
one-differ Node4 Node4 differ = absurd (differ refl)
one-differ Node16 Node16 differ = absurd (differ refl)
one-differ Node48 Node48 differ = absurd (differ refl)
one-differ Node256 Node256 differ = absurd (differ refl)
one-differ LeafKind LeafKind differ = absurd (differ refl)
one-differ a b differ = refl

pub one-at-most : (a b : NodeType) → one_if_same a b ≤ 1
one-at-most a b = elim (same_or_differ a b) [
  | inl same ↦ let one : one_if_same a b ≡ 1 = ap (one_if_same a) (sym same) ∙ one-same a in omega (arith, one)
  | inr differ ↦ let none = one-differ a b differ in omega (arith, none)
]

-- an inner node or a leaf is one node
pub one-or-leaf : (kind : NodeType) (n : ℕ) → one_if_same kind (kind_for n) + one_if_same kind LeafKind ≤ 1
one-or-leaf kind n = elim (same_or_differ kind LeafKind) [
  | inl same ↦
      let inner : one_if_same kind (kind_for n) ≡ 0 = ap (λ k. one_if_same k (kind_for n)) same ∙ no-leaf-kind n in
      let most = one-at-most kind LeafKind in
      omega (arith, inner, most)
  | inr differ ↦
      let leaf = one-differ kind LeafKind differ in
      let most = one-at-most kind (kind_for n) in
      omega (arith, leaf, most)
]

-- a node of one of the larger kinds has as many branches as so many nodes of two
own-4 : (n : ℕ) → 2 ≤ n → one_if_same Node4 (kind_for n) + 1 ≤ n
own-4 n two = let most = one-at-most Node4 (kind_for n) in omega (arith, most, two)

own-16 : (n : ℕ) → 2 ≤ n → one_if_same Node16 (kind_for n) * 4 + 1 ≤ n
own-16 n two = elim (cases_lt 4 n) [
  | inr four ↦ let none : one_if_same Node16 (kind_for n) ≡ 0 = ap (one_if_same Node16) (kind-4 n four) in omega (arith, none, two)
  | inl past ↦ let most = one-at-most Node16 (kind_for n) in omega (arith, most, past)
]

own-48 : (n : ℕ) → 2 ≤ n → one_if_same Node48 (kind_for n) * 16 + 1 ≤ n
own-48 n two =
    let other = λ (k : NodeType) (is : kind_for n ≡ k) (none : one_if_same Node48 k ≡ 0). ap (one_if_same Node48) is ∙ none in
    let most = one-at-most Node48 (kind_for n) in
    by_kind n (one_if_same Node48 (kind_for n) * 16 + 1 ≤ n) (λ few is. omega (arith, other Node4 is refl, two)) (λ past few is. omega (arith, other Node16 is refl, two)) (λ more few is. omega (arith, most, more)) (λ all is. omega (arith, most, all))

own-256 : (n : ℕ) → 2 ≤ n → one_if_same Node256 (kind_for n) * 48 + 1 ≤ n
own-256 n two =
    let other = λ (k : NodeType) (is : kind_for n ≡ k) (none : one_if_same Node256 k ≡ 0). ap (one_if_same Node256) is ∙ none in
    let most = one-at-most Node256 (kind_for n) in
    by_kind n (one_if_same Node256 (kind_for n) * 48 + 1 ≤ n) (λ few is. omega (arith, other Node4 is refl, two)) (λ past few is. omega (arith, other Node16 is refl, two)) (λ more few is. omega (arith, other Node48 is refl, two)) (λ all is. omega (arith, most, all))

-- so the nodes of a kind, each by this weight, are fewer than the leaves
module _ {H : Type 0} (kind : NodeType) (weight : ℕ → ℕ) (none : weight 0 ≡ 0) (sum : (a b : ℕ) → weight (a + b) ≡ weight a + weight b) (inner : one_if_same kind LeafKind ≡ 0) (own : (n : ℕ) → 2 ≤ n → weight (one_if_same kind (kind_for n)) + 1 ≤ n) where
  mutual
    weighed : (path : List ℕ) (tree : Tree H) → IsSound path tree → weight (nodes_of kind tree) + 1 ≤ length (leaves tree)
    weighed path (Leaf pointer text) sound = omega (arith, ap weight inner, none)
    weighed path (Inner pointer prefix branches) sound =
        let count = length (branch_roots branches) in
        let top = own count sound.0 in
        let rest = weighed-branches (path ++ prefix) branches sound.2 in
        let both = sum (one_if_same kind (kind_for count)) (branch_nodes_of kind branches) in
        omega (arith, top, rest, both)

    weighed-branches : (path : List ℕ) (branches : Branches H) → AreSound path branches → weight (branch_nodes_of kind branches) + length (branch_roots branches) ≤ length (branch_leaves branches)
    weighed-branches path NoBranch sound = omega (arith, none)
    weighed-branches path (Branch byte tree others) sound =
        let first = weighed (path ++ byte ∷ []) tree sound.0 in
        let rest = weighed-branches path others sound.1 in
        let both = sum (nodes_of kind tree) (branch_nodes_of kind others) in
        omega (arith, first, rest, both, length-append (leaves tree) (branch_leaves others))

module _ {H : Type 0} where
  mutual
    -- the nodes of the kind of leaves are the leaves
    pub leaf-nodes : (tree : Tree H) → nodes_of LeafKind tree ≡ length (leaves tree)
    leaf-nodes (Leaf pointer text) = refl
    leaf-nodes (Inner pointer prefix branches) = let rest = branch-leaf-nodes branches in let none = no-leaf-kind (length (branch_roots branches)) in omega (arith, rest, none)

    branch-leaf-nodes : (branches : Branches H) → branch_nodes_of LeafKind branches ≡ length (branch_leaves branches)
    branch-leaf-nodes NoBranch = refl
    branch-leaf-nodes (Branch byte tree others) =
        let first = leaf-nodes tree in
        let rest = branch-leaf-nodes others in
        omega (arith, first, rest, length-append (leaves tree) (branch_leaves others))

  pub text-nodes : (tree : Tree H) → nodes_of LeafKind tree ≡ length (texts tree)
  text-nodes tree = let nodes = leaf-nodes tree in let long = length-map (leaves tree) (λ leaf. leaf.1) in omega (arith, nodes, long)

  -- the most nodes of a kind that a tree of so many texts has
  module _ (tree : Tree H) (sound : IsWellFormed tree) (most : ℕ) (few : length (texts tree) ≤ most) where
    few-leaves : length (leaves tree) ≤ most
    few-leaves = let long = length-map (leaves tree) (λ leaf. leaf.1) in omega (arith, few, long)

    pub most-leaves : nodes_of LeafKind tree ≤ most
    most-leaves = let nodes = leaf-nodes tree in omega (arith, nodes, few-leaves)

    pub most-4 : nodes_of Node4 tree ≤ most
    most-4 = let fewer = weighed Node4 (λ n. n) refl (λ a b. refl) refl own-4 [] tree sound in omega (arith, fewer, few-leaves)

    pub most-16 : nodes_of Node16 tree ≤ most / 4
    most-16 = let fewer = weighed Node16 (λ n. n * 4) refl (λ a b. omega arith) refl own-16 [] tree sound in omega (arith, fewer, few-leaves)

    pub most-48 : nodes_of Node48 tree ≤ most / 16
    most-48 = let fewer = weighed Node48 (λ n. n * 16) refl (λ a b. omega arith) refl own-48 [] tree sound in omega (arith, fewer, few-leaves)

    pub most-256 : nodes_of Node256 tree ≤ most / 48
    most-256 = let fewer = weighed Node256 (λ n. n * 48) refl (λ a b. omega arith) refl own-256 [] tree sound in omega (arith, fewer, few-leaves)
