use Rattle.art_tree.proofs.Names.{◌<◌, ◌∙◌, length, inner_shown, shown, inner-there}
use Rattle.art_tree.proofs.RemoveLemmas.EndWays.{some-child}
use Rattle.art_tree.proofs.remove.end_place.child_at_end.Goals as goal

pub pair_at_end-requires : goal.pair_at_end-requires
pair_at_end-requires g c =
    let there = c.node_ref.ensures.node ∙ inner-there (shown c.node_ref.result) c.inner.result c.inner.ensures.node c.in_ok-node.node c.in_ok-node.was in
    let some : 0 < length (inner_shown c.in_ok-node.node).children = some-child g.K.AsBytes.text c.args.arena.now c.args.pointer c.requires (inner_shown c.in_ok-node.node) there in
    search

pub returns-clause-child : goal.returns-clause-child
returns-clause-child g c =
    let there = c.node_ref.ensures.node ∙ inner-there (shown c.node_ref.result) c.inner.result c.inner.ensures.node c.in_ok-node.node c.in_ok-node.was in
    (inner_shown c.in_ok-node.node, there, c.pair_at_end.ensures)
