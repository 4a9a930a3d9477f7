-- The nodes that a tree needs for a child more.
use Rattle.art_tree.proofs.Names.{◌≡◌, ◌≢◌, ◌∙◌, ℕ, ◌+◌, ◌<◌, ◌^◌, List, length, Some, sym, ap, subst, inl, inr, arith, kind_for, most_children, grown_kind, NodeType, IsAscending, key_bytes, child_at, node_kind, OpaqueNodePtr, NodeArena, room, branch_roots, texts, plug, join, one_if_same, nodes_of, branch_nodes_of, LacksRoomForChild, LacksRoomToInsert, Spot, LeafKind, Node256}
use Rattle.art_steps.proofs.InsertLemmas.AddedChild.{ChildSpot, alone-there, around_it, gap-there, is-there, leaves-there, node-is, node_there, shown-there, smallest_kinds-there, sound-there, there-inner}
use Rattle.art_tree.proofs.InsertLemmas.NeededNodes.{insert-lacks, nodes-taken}
use Rattle.art_steps.proofs.InsertLemmas.NodeLemmas.{few-where-absent}
use Rattle.art_steps.proofs.InsertLemmas.SubtreeLemmas.{with_leaf}
use Rattle.art_steps.proofs.SharedLemmas.NodeKinds.{kind-grows}
use Rattle.art_steps.proofs.SharedLemmas.DictionaryLemmas.{AreApart}
use Rattle.art_tree.proofs.SharedLemmas.NodeCounts.{grown-other, no-leaf-kind, one-same}

module _ {K V : Type 0} {P : ℕ} {text : K → List ℕ} {old : NodeArena K V P} {root : OpaqueNodePtr K V P} {spot : Spot K V P} {byte : ℕ} {key : K} (child_spot : ChildSpot text old root spot byte key) (short : length (text key) < 2 ^ 32)
    (apart : AreApart (texts (plug (around_it child_spot) (node_there child_spot)))) where
  abbrev count : ℕ
  count = length (branch_roots (join (gap-there child_spot).before (gap-there child_spot).after))

  -- the nodes below the parent before the insert
  nodes-there : (kind : NodeType) → nodes_of kind (node_there child_spot) ≡ one_if_same kind (kind_for count) + branch_nodes_of kind (join (gap-there child_spot).before (gap-there child_spot).after)
  nodes-there kind = ap (λ b. one_if_same kind (kind_for (length (branch_roots b))) + branch_nodes_of kind b) (sym (gap-there child_spot).same)

  nodes-more : (kind : NodeType)
      → nodes_of kind (with_leaf root child_spot.lacks.prefix (gap-there child_spot).before byte root (text key) (gap-there child_spot).after) ≡ one_if_same kind (kind_for (count + 1)) + (branch_nodes_of kind (join (gap-there child_spot).before (gap-there child_spot).after) + one_if_same kind LeafKind)
  nodes-more kind = nodes-taken kind root child_spot.lacks.prefix (gap-there child_spot).before byte root (text key) (gap-there child_spot).after

  lacks-one : (kind : NodeType) → nodes_of kind (node_there child_spot) < nodes_of kind (with_leaf root child_spot.lacks.prefix (gap-there child_spot).before byte root (text key) (gap-there child_spot).after) → room old kind ≡ 0 → LacksRoomToInsert text old (Some root) (text key) kind
  lacks-one = insert-lacks text old root (around_it child_spot) (node_there child_spot) child_spot.lacks.prefix (gap-there child_spot).before byte (gap-there child_spot).after (text key) (alone-there child_spot) (leaves-there child_spot) (gap-there child_spot).place child_spot.lacks.leads short apart

  -- it needs a leaf, and a node of the next kind where the parent is full
  pub child-lacks : (kind : NodeType) → LacksRoomForChild old spot.node kind → LacksRoomToInsert text old (Some root) (text key) kind
  child-lacks kind (inl (is, none)) =
      subst (LacksRoomToInsert text old (Some root) (text key)) (sym is) (lacks-one LeafKind (omega (arith, nodes-there LeafKind, no-leaf-kind count, nodes-more LeafKind)) (subst (λ k. room old k ≡ 0) is none))
  child-lacks kind (inr grows) =
      let node = node-is child_spot in
      let shows = shown-there child_spot in
      let (full, is, none) = grows node (is-there child_spot) in
      let grown = grown_kind (node_kind spot.node) in
      let same : length node.children ≡ count = ap length shows.children ∙ ap (λ b. length (branch_roots b)) (sym (gap-there child_spot).same) in
      let own : node_kind spot.node ≡ kind_for count = (smallest_kinds-there child_spot).0 ∙ ap (λ b. kind_for (length (branch_roots b))) (sym (gap-there child_spot).same) in
      let few : length node.children < 256 =
      few-where-absent node byte child_spot.fits (subst (λ children. IsAscending (key_bytes children)) (sym shows.children) (sound-there child_spot).1) (ap (λ children. child_at children byte) shows.children ∙ child_spot.lacks.absent) in
      let next : kind_for (count + 1) ≡ grown_kind (kind_for count) = kind-grows count (sym same ∙ full ∙ ap most_children own) (omega (arith, same, few)) in
      let small : node_kind spot.node ≢ Node256 = λ largest. omega (arith, full, ap most_children largest, few) in
      let none_before : one_if_same grown (kind_for count) ≡ 0 = ap (one_if_same grown) (sym own) ∙ grown-other (node_kind spot.node) small (there-inner child_spot) in
      let one_after : one_if_same grown (kind_for (count + 1)) ≡ 1 = ap (one_if_same grown) (next ∙ sym (ap grown_kind own)) ∙ one-same grown in
      subst (LacksRoomToInsert text old (Some root) (text key)) (sym is) (lacks-one grown (omega (arith, nodes-there grown, none_before, nodes-more grown, one_after)) (subst (λ k. room old k ≡ 0) is none))
