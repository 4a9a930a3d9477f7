use Rattle.std.proofs.Common.{length, ap, ◌∙◌}
use Rattle.art_nodes.proofs.inner_nodes.representations.inner_node_indirect.InnerNodeIndirectInnerNodeRead.num_children.Goals as goal

pub returns-clause-count : goal.returns-clause-count
returns-clause-count g c = c.num_children.ensures.value ∙ (c.self.invariant.counted ∙ ap (λ n. length n.children) c.self.view_is)
