use Rattle.std.proofs.Common.{ap, sym, ◌∙◌}
use Rattle.art_nodes.specs.ChildMap.{last_pair}
use Rattle.art_nodes.proofs.ListLemmas.{last_yielded}
use Rattle.art_nodes.proofs.inner_nodes.representations.inner_node_direct.InnerNodeDirectInnerNodeRead.max.Goals as goal

pub returns-clause-pair : goal.returns-clause-pair
returns-clause-pair g c =
    rw (c.to_opaque.ensures, ← c.self.view_is) (ap last_pair (sym c.pairs.ensures) ∙ sym (last_yielded c.pairs.result _ _ c.next_back.ensures.steps) ∙ c.unwrap-byte.ensures)
