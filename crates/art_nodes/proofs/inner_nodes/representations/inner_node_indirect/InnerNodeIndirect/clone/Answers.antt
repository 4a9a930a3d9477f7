use Rattle.std.proofs.Common.{◌∙◌}
use Rattle.art_nodes.proofs.inner_nodes.representations.inner_node_indirect.InnerNodeIndirect.clone.Goals as goal

pub returns : goal.returns
returns g c =
    let header = rw c.unwrap.ensures at c.clone.ensures.cases in
    rw (header, c.clone-2.ensures, c.copy_of-2.ensures ∙ c.deref-2.ensures.0) c.self.view_is
