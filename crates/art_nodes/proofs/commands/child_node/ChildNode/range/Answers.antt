use Rattle.std.proofs.Common.{ap, ◌∙◌}
use Rattle.art_nodes.specs.ChildMap.{AreValidBounds}
use Rattle.art_nodes.specs.declared.commands.command.ChildReply.TheVariants.{Pairs}
use Rattle.art_nodes.proofs.commands.child_node.ChildNode.range.Goals as goal

pub returns-then-not-valid_range_bounds-clause-refused : goal.returns-then-not-valid_range_bounds-clause-refused
returns-then-not-valid_range_bounds-clause-refused g c = tt

pub returns-clause-reply : goal.returns-clause-reply
returns-clause-reply g c =
    let valid : AreValidBounds c.args.start c.args.end = c.valid_range_bounds.ensures.0 c.if-not-valid_range_bounds.false in
    rw (valid, ← c.self.view_is) (ap Pairs (c.from_vec.ensures ∙ c.in_ok-pairs.ensures))
