use Rattle.std.proofs.Common.{◌∙◌, ap}
use Rattle.art_search.proofs.PathSteps.{visited, visit-kept, first-remembered, more-remembered}
use Rattle.art_search.proofs.path.TreePathSearch.visit_inner_node.Goals.{in-NoNode, in-OneNode}
use Rattle.art_search.proofs.path.TreePathSearch.visit_inner_node.Goals as goal

pub returns : goal.returns
returns g c = λ steps stands.
    let was = c.self.inside in
    visit-kept steps c.args.self.now _ c.args.inner_node c.args.key_byte (elim c.match-self.branch [
      | in-NoNode w ↦ first-remembered was.grandparent was.parent_key_byte was.parent was.child_key_byte c.args.inner_node c.args.key_byte was.visited _ w.in-NoNode.is w.self-is
      | in-OneNode w ↦ more-remembered was.grandparent was.parent_key_byte was.parent was.child_key_byte c.args.inner_node c.args.key_byte was.visited _ w.in-OneNode.is w.self-is
    ] ∙ ap (λ p. visited p c.args.inner_node c.args.key_byte) c.self.view_is) stands
