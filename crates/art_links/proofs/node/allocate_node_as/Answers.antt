use Rattle.art_links.proofs.Names.{◌∙◌, ◌-◌, take, drop, ap, sym, subst, length, arith, slab_key, node_kind, opaque_key, opaque_pointer, HeldInner, Changes, leaf_at, node_of}
use Rattle.art_links.proofs.HeldNodes.{text-of-key}
use Rattle.art_links.proofs.PlacedNodes.{placed}
use Rattle.art_links.proofs.node.allocate_node_as.Goals as goal

pub returns : goal.returns
returns g c =
    let old = c.args.arena.now in
    let new = c.allocate_reserved.new.self in
    let kind = g.N.Node.TYPE in
    let text = c.as_bytes-text.ensures.text ∙ sym (text-of-key g.K.AsBytes.text (leaf_at old (slab_key c.args.leaf)) c.as_key_ref.result.now c.as_key_ref.ensures) in
    let node = g.met.N.ArenaInnerNode.shown c.inner_node-node.result ∙ ap HeldInner (c.inner_node-node.ensures ∙ ap (λ t. node_of g.row.PREFIX_LEN (take (c.args.end - c.args.start) (drop c.args.start t)) c.args.children.now) text) in
    let stored = c.allocate_reserved.ensures in
    placed old new kind (slab_key c.allocate_reserved.result) _ c.to_opaque.result (ap node_kind c.to_opaque.ensures) (ap opaque_key c.to_opaque.ensures)
    stored.was_free
    (subst (Changes old new (opaque_pointer kind (slab_key c.allocate_reserved.result))) node stored.added)
    (omega (arith, stored.room))
    stored.other_room stored.capacity

pub slice_bounds-inner_node-end : goal.slice_bounds-inner_node-end
slice_bounds-inner_node-end g c =
    let text = text-of-key g.K.AsBytes.text (leaf_at c.args.arena.now (slab_key c.args.leaf)) c.as_key_ref.result.now c.as_key_ref.ensures in
    omega (arith, c.requires.within, ap length text, ap length c.as_bytes-text.ensures.text)
