use Rattle.std.proofs.Common.{lit<, ◌<◌, ◌^◌, ◌∙◌}
use Rattle.art_arena.specs.InnerRef.{inner_shown}
use Rattle.art_arena.specs.Reader.{shown}
use Rattle.art_arena.proofs.StandingLaws.{inner-there}
use Rattle.art_arena.proofs.ends.step_to_leaf.Goals as goal

pub any_child_prefer_leaf-requires : goal.any_child_prefer_leaf-requires
any_child_prefer_leaf-requires g c =
    let there = c.node_ref.ensures.node ∙ inner-there (shown c.node_ref.result) c.inner.result c.inner.ensures.node c.in_ok-node.node c.in_ok-node.was in
    let two = c.requires.two (inner_shown c.in_ok-node.node) there in search

pub returns-clause-child : goal.returns-clause-child
returns-clause-child g c =
    let there = c.node_ref.ensures.node ∙ inner-there (shown c.node_ref.result) c.inner.result c.inner.ensures.node c.in_ok-node.node c.in_ok-node.was in
    (inner_shown c.in_ok-node.node, there, c.any_child_prefer_leaf.ensures)

pub node_ref-requires : goal.node_ref-requires
node_ref-requires g c = let word : 8 < 2 ^ 63 = lit< tt in search
