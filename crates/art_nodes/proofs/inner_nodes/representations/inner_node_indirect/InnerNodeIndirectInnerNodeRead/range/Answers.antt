use Rattle.art_nodes.specs.ChildMap.{pairs_within}
use Rattle.std.proofs.Common.{ap, ◌∙◌}
use Rattle.art_nodes.proofs.IndirectLemmas.{below_from_once}
use Rattle.art_nodes.proofs.inner_nodes.representations.inner_node_indirect.InnerNodeIndirectInnerNodeRead.range.Goals as goal

pub over_indices_range-requires-clause-named : goal.over_indices_range-requires-clause-named
over_indices_range-requires-clause-named g c = rw c.deref.ensures.0 (below_from_once _ _ c.self.invariant.named_once)

pub returns : goal.returns
returns g c = c.over_indices_range.ensures ∙ rw c.deref.ensures.0 (ap (λ n. pairs_within n.children c.args.start c.args.end) c.self.view_is)
