-- How many nodes of a kind trees have.
use Rattle.art_tree.proofs.Names.{◌≡◌, ◌≢◌, ℕ, ◌+◌, ◌<◌, length, refl, ap, arith, kind_for, grown_kind, shrunk_kind, NodeType, Tree, Leaf, Inner, Branches, NoBranch, Branch, branch_roots, SameButPointers, SameBranches, Context, Whole, Under, plug, join, one_if_same, nodes_of, branch_nodes_of, LeafKind, Node16, Node256, Node4, Node48}
use Rattle.art_steps.proofs.SharedLemmas.ExchangedSubtree.{count-same}
use Rattle.art_steps.proofs.SharedLemmas.NodeKinds.{by_kind}

pub one-same : (kind : NodeType) → one_if_same kind kind ≡ 1
one-same Node4 = refl
one-same Node16 = refl
one-same Node48 = refl
one-same Node256 = refl
one-same LeafKind = refl

-- the kind that an inner node grows to is a different one
pub grown-other : (kind : NodeType) → kind ≢ Node256 → kind ≢ LeafKind → one_if_same (grown_kind kind) kind ≡ 0
grown-other Node4 small inner = refl
grown-other Node16 small inner = refl
grown-other Node48 small inner = refl
grown-other Node256 small inner = absurd (small refl)
grown-other LeafKind small inner = absurd (inner refl)

-- and so is the one that it shrinks to
pub shrunk-other : (kind : NodeType) → kind ≢ Node4 → kind ≢ LeafKind → one_if_same (shrunk_kind kind) kind ≡ 0
shrunk-other Node4 large inner = absurd (large refl)
shrunk-other Node16 large inner = refl
shrunk-other Node48 large inner = refl
shrunk-other Node256 large inner = refl
shrunk-other LeafKind large inner = absurd (inner refl)

pub shrunk-no-leaf : (kind : NodeType) → kind ≢ LeafKind → one_if_same (shrunk_kind kind) LeafKind ≡ 0
shrunk-no-leaf Node4 inner = refl
shrunk-no-leaf Node16 inner = refl
shrunk-no-leaf Node48 inner = refl
shrunk-no-leaf Node256 inner = refl
shrunk-no-leaf LeafKind inner = absurd (inner refl)

-- no inner node is of the kind of leaves
pub no-leaf-kind : (n : ℕ) → one_if_same LeafKind (kind_for n) ≡ 0
no-leaf-kind n = by_kind n (one_if_same LeafKind (kind_for n) ≡ 0) (λ few is. ap (one_if_same LeafKind) is) (λ past few is. ap (one_if_same LeafKind) is) (λ more few is. ap (one_if_same LeafKind) is) (λ all is. ap (one_if_same LeafKind) is)

module _ {H : Type 0} (kind : NodeType) where
  pub nodes-join : (a b : Branches H) → branch_nodes_of kind (join a b) ≡ branch_nodes_of kind a + branch_nodes_of kind b
  nodes-join NoBranch b = omega arith
  nodes-join (Branch byte tree others) b = let rest = nodes-join others b in omega (arith, rest)

  -- where a subtree has more nodes of the kind than the one that it replaces, so has the whole tree
  pub more-around : (context : Context H) (old new : Tree H) → nodes_of kind old < nodes_of kind new → nodes_of kind (plug context old) < nodes_of kind (plug context new)
  more-around Whole old new more = more
  more-around (Under above pointer prefix before byte after) old new more =
      let same = ap (λ n. one_if_same kind (kind_for n)) (count-same before byte old new after) in
      let was = nodes-join before (Branch byte old after) in
      let now = nodes-join before (Branch byte new after) in
      more-around above (Inner pointer prefix (join before (Branch byte old after))) (Inner pointer prefix (join before (Branch byte new after))) (omega (arith, more, same, was, now))

module _ {H L : Type 0} where
  counts-agree : (branches : Branches H) (more : Branches L) → SameBranches branches more → length (branch_roots branches) ≡ length (branch_roots more)
  counts-agree NoBranch NoBranch same = refl
  counts-agree NoBranch (Branch byte tree more) same = absurd same
  counts-agree (Branch byte tree others) NoBranch same = absurd same
  counts-agree (Branch byte tree others) (Branch c t more) same = let rest = counts-agree others more same.2 in omega (arith, rest)

  module _ (kind : NodeType) where
    mutual
      -- trees that are equal but for their pointers have as many nodes of the kind
      pub nodes-agree : (tree : Tree H) (other : Tree L) → SameButPointers tree other → nodes_of kind tree ≡ nodes_of kind other
      nodes-agree (Leaf pointer x) (Leaf at y) same = refl
      nodes-agree (Leaf pointer x) (Inner at prefix more) same = absurd same
      nodes-agree (Inner pointer prefix branches) (Leaf at y) same = absurd same
      nodes-agree (Inner pointer prefix branches) (Inner at p more) same =
          let count = ap (λ n. one_if_same kind (kind_for n)) (counts-agree branches more same.1) in
          let rest = branch-nodes-agree branches more same.1 in
          omega (arith, count, rest)

      branch-nodes-agree : (branches : Branches H) (more : Branches L) → SameBranches branches more → branch_nodes_of kind branches ≡ branch_nodes_of kind more
      branch-nodes-agree NoBranch NoBranch same = refl
      branch-nodes-agree NoBranch (Branch byte tree more) same = absurd same
      branch-nodes-agree (Branch byte tree others) NoBranch same = absurd same
      branch-nodes-agree (Branch byte tree others) (Branch c t more) same =
          let first = nodes-agree tree t same.1 in
          let rest = branch-nodes-agree others more same.2 in
          omega (arith, first, rest)
