-- The nodes that a tree needs for a leaf that forks from a subtree.
use Rattle.art_tree.proofs.Names.{◌≡◌, ℕ, ◌+◌, ◌<◌, ◌^◌, List, length, Some, refl, sym, ap, subst, inl, inr, arith, kind_for, NodeType, OpaqueNodePtr, NodeArena, room, Tree, Leaf, Inner, branch_roots, texts, plug, join, one_if_same, nodes_of, branch_nodes_of, LacksRoomForFork, LacksRoomToInsert, Mismatch, Spot, LeafKind, Node4}
use Rattle.art_tree.proofs.InsertLemmas.AddedFork.{ForkPoint, alone-there, around_it, fork-there, leaves-there, left_there, len_there, part_there, right_there, shared_there, trimmed_there}
use Rattle.art_tree.proofs.InsertLemmas.NeededNodes.{insert-lacks, nodes-taken}
use Rattle.art_steps.proofs.InsertLemmas.SubtreeLemmas.{both-sides, ltrimmed, with_leaf}
use Rattle.art_steps.proofs.SharedLemmas.DictionaryLemmas.{AreApart}

-- a tree without the first bytes of its prefix has the same nodes
nodes-trimmed : {H : Type 0} (kind : NodeType) (len : ℕ) (part : Tree H) → nodes_of kind (ltrimmed len part) ≡ nodes_of kind part
nodes-trimmed kind len (Leaf pointer x) = refl
nodes-trimmed kind len (Inner pointer prefix branches) = refl

module _ {K V : Type 0} {P : ℕ} {text : K → List ℕ} {old : NodeArena K V P} {root : OpaqueNodePtr K V P} {spot : Spot K V P} {mismatch : Mismatch} {key : K} (fork_place : ForkPoint text old root spot mismatch key) (short : length (text key) < 2 ^ 32)
    (apart : AreApart (texts (plug (around_it fork_place) (part_there fork_place)))) where
  -- the branches on both sides of the byte are the one subtree
  nodes-there : (kind : NodeType) → branch_nodes_of kind (join (left_there fork_place) (right_there fork_place)) ≡ nodes_of kind (part_there fork_place)
  nodes-there kind =
      let both = ap (branch_nodes_of kind) (both-sides mismatch.byte mismatch.node_byte (trimmed_there fork_place)) in
      let trimmed = nodes-trimmed kind (len_there fork_place) (part_there fork_place) in
      omega (arith, both, trimmed)

  one-there : length (branch_roots (join (left_there fork_place) (right_there fork_place))) ≡ 1
  one-there = ap (λ b. length (branch_roots b)) (both-sides mismatch.byte mismatch.node_byte (trimmed_there fork_place))

  nodes-more : (kind : NodeType)
      → nodes_of kind (with_leaf root (shared_there fork_place) (left_there fork_place) mismatch.byte root (text key) (right_there fork_place)) ≡ one_if_same kind (kind_for (length (branch_roots (join (left_there fork_place) (right_there fork_place))) + 1)) + (branch_nodes_of kind (join (left_there fork_place) (right_there fork_place)) + one_if_same kind LeafKind)
  nodes-more kind = nodes-taken kind root (shared_there fork_place) (left_there fork_place) mismatch.byte root (text key) (right_there fork_place)

  lacks-one : (kind : NodeType) → nodes_of kind (part_there fork_place) < nodes_of kind (with_leaf root (shared_there fork_place) (left_there fork_place) mismatch.byte root (text key) (right_there fork_place)) → room old kind ≡ 0 → LacksRoomToInsert text old (Some root) (text key) kind
  lacks-one =
      insert-lacks text old root (around_it fork_place) (part_there fork_place) (shared_there fork_place) (left_there fork_place) mismatch.byte (right_there fork_place) (text key) (alone-there fork_place) (leaves-there fork_place) (fork-there fork_place).place (fork-there fork_place).leads short apart

  -- it needs a leaf, and a Node4
  pub fork-lacks : (kind : NodeType) → LacksRoomForFork old kind → LacksRoomToInsert text old (Some root) (text key) kind
  fork-lacks kind (inl is, none) = subst (LacksRoomToInsert text old (Some root) (text key)) (sym is) (lacks-one LeafKind (omega (arith, nodes-there LeafKind, nodes-more LeafKind)) (subst (λ k. room old k ≡ 0) is none))
  fork-lacks kind (inr is, none) =
      let own : one_if_same Node4 (kind_for (length (branch_roots (join (left_there fork_place) (right_there fork_place))) + 1)) ≡ 1 = ap (λ n. one_if_same Node4 (kind_for (n + 1))) one-there in
      subst (LacksRoomToInsert text old (Some root) (text key)) (sym is) (lacks-one Node4 (omega (arith, nodes-there Node4, nodes-more Node4, own)) (subst (λ k. room old k ≡ 0) is none))
