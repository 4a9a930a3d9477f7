use Rattle.std.proofs.Common.{ap, ◌∙◌}
use Rattle.art_nodes.specs.ChildMap.{last_pair}
use Rattle.art_nodes.proofs.ListLemmas.{last_yielded}
use Rattle.art_nodes.proofs.commands.any_inner.AnyInner.max.Goals as goal

pub returns : goal.returns
returns g c = last_yielded c.iter.result _ _ c.next_back.ensures.steps ∙ ap last_pair c.iter.ensures
