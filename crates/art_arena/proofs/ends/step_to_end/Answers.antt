use Rattle.std.proofs.Common.{lit<, ◌<◌, ◌^◌, ◌∙◌}
use Rattle.art_arena.specs.InnerRef.{inner_shown}
use Rattle.art_arena.specs.Reader.{shown}
use Rattle.art_arena.proofs.StandingLaws.{inner-there}
use Rattle.art_arena.proofs.ends.step_to_end.Goals as goal

pub end_child-requires : goal.end_child-requires
end_child-requires g c =
    let there = c.node_ref.ensures.node ∙ inner-there (shown c.node_ref.result) c.inner.result c.inner.ensures.node c.in_ok-node.node c.in_ok-node.was in
    let has_child = c.requires.has_child (inner_shown c.in_ok-node.node) there in search

pub returns-clause-child : goal.returns-clause-child
returns-clause-child g c =
    let there = c.node_ref.ensures.node ∙ inner-there (shown c.node_ref.result) c.inner.result c.inner.ensures.node c.in_ok-node.node c.in_ok-node.was in
    let pair = c.end_child.ensures in
    (inner_shown c.in_ok-node.node, pair.0, there, pair.1)

pub node_ref-requires : goal.node_ref-requires
node_ref-requires g c = let word : 8 < 2 ^ 63 = lit< tt in search
