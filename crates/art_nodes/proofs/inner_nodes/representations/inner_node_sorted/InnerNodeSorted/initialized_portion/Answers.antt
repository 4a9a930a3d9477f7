use Rattle.std.proofs.Common.{sym}
use Rattle.art_nodes.proofs.SortedLemmas.{key_bytes-zip, seconds-zip}
use Rattle.art_nodes.proofs.inner_nodes.representations.inner_node_sorted.InnerNodeSorted.initialized_portion.Goals as goal

pub returns-clause-bytes : goal.returns-clause-bytes
returns-clause-bytes g c = rw (c.deref.ensures.0, ← c.self.view_is) (sym (key_bytes-zip _ _ c.self.invariant.beside))

pub returns-clause-children : goal.returns-clause-children
returns-clause-children g c = rw (c.deref-2.ensures.0, ← c.self.view_is) (sym (seconds-zip _ _ c.self.invariant.beside))
