use Rattle.std.proofs.Common.{ap, ◌∙◌}
use Rattle.art_nodes.specs.ChildMap.{first_pair}
use Rattle.art_nodes.proofs.ListLemmas.{first_yielded}
use Rattle.art_nodes.proofs.commands.any_inner.AnyInner.min.Goals as goal

pub returns : goal.returns
returns g c = first_yielded c.iter.result _ _ c.next.ensures.steps ∙ ap first_pair c.iter.ensures
