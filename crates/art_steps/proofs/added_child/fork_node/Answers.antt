use Rattle.art_steps.proofs.Names.{◌≡◌, ◌∙◌, ◌-◌, ◌∷◌, [], take, drop, ap, subst, Node4, slab_key, text_at, two_children, node_of, IsPlaced, leaf_pointer}
use Rattle.art_steps.proofs.InsertLemmas.NodeLemmas.{child-first, child-last}
use Rattle.art_steps.proofs.added_child.fork_node.Goals as goal
use Rattle.art_steps.proofs.added_child.fork_node.Goals.{then-mismatch, else-mismatch}

pub returns : goal.returns
returns g c =
    let prefix = take (c.args.mismatch.index - c.args.depth) (drop c.args.depth (text_at g.K.AsBytes.text c.args.arena.now (slab_key c.args.leaf))) in
    let children : c.if-mismatch.children ≡ two_children c.args.mismatch.byte (leaf_pointer c.args.leaf) c.args.mismatch.node_byte c.args.node = elim c.if-mismatch.branch [
      | then-mismatch w ↦ w.children-is ∙ ap (λ p. (c.args.mismatch.byte, p) ∷ (c.args.mismatch.node_byte, c.args.node) ∷ []) c.to_opaque.ensures ∙ child-first c.args.mismatch.byte (leaf_pointer c.args.leaf) c.args.mismatch.node_byte c.args.node w.if-mismatch.true
      | else-mismatch w ↦ w.children-is ∙ ap (λ p. (c.args.mismatch.node_byte, c.args.node) ∷ (c.args.mismatch.byte, p) ∷ []) c.to_opaque.ensures ∙ child-last c.args.mismatch.byte (leaf_pointer c.args.leaf) c.args.mismatch.node_byte c.args.node w.if-mismatch.false
    ] in
    subst (λ kids. IsPlaced c.args.arena.now c.allocate_node_as.new.arena Node4 (node_of g.row.PREFIX_LEN prefix kids) c.allocate_node_as.result) children c.allocate_node_as.ensures
