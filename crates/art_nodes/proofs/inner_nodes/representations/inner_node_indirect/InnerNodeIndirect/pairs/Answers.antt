use Rattle.std.proofs.Common.{ap, ◌∙◌}
use Rattle.art_nodes.proofs.IndirectLemmas.{below_from_once}
use Rattle.art_nodes.proofs.inner_nodes.representations.inner_node_indirect.InnerNodeIndirect.pairs.Goals as goal

pub new-requires-clause-named : goal.new-requires-clause-named
new-requires-clause-named g c = rw (c.deref.ensures.0, c.places.ensures.indices) (below_from_once _ _ c.self.invariant.named_once)

pub returns-clause-pairs : goal.returns-clause-pairs
returns-clause-pairs g c = c.new.ensures ∙ rw (c.deref.ensures.0, c.places.ensures.indices) (ap (λ n. n.children) c.self.view_is)
