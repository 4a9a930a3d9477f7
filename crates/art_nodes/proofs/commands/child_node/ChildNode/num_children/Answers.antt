use Rattle.std.proofs.Common.{length, ap, ◌∙◌}
use Rattle.art_nodes.proofs.commands.child_node.ChildNode.num_children.Goals as goal

pub returns-clause-count : goal.returns-clause-count
returns-clause-count g c = c.num_children.ensures.count ∙ ap (λ n. length n.children) c.self.view_is
