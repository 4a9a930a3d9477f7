use Rattle.art_nodes.proofs.commands.any_inner.AnyInner.is_below_range.Goals as goal

pub returns-clause-value : goal.returns-clause-value
returns-clause-value g c =
    let told = c.should_shrink_inner_node.ensures in
    rw (← c.node_type.ensures, ← c.num_children.ensures.count) ((λ yes. (λ e. told.smallest e yes, (told.below_range (λ e. told.smallest e yes)).0 yes)), λ both. (told.below_range both.0).1 both.1)
