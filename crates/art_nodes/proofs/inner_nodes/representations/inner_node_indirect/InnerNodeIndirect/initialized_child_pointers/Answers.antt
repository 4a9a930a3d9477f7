use Rattle.art_nodes.proofs.IndirectLemmas.{named_permutation}
use Rattle.art_nodes.proofs.inner_nodes.representations.inner_node_indirect.InnerNodeIndirect.initialized_child_pointers.Goals as goal

pub returns : goal.returns
returns g c = rw (c.as_slice.ensures.value, ← c.self.view_is) (named_permutation c.self.inside.child_pointers.items c.self.inside.child_indices c.self.invariant.named_once)
