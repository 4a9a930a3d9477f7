use Rattle.std.proofs.Common.{◌∙◌, refl}
use Rattle.art_steps.proofs.RemoveLemmas.ShrunkNode.{counted}
use Rattle.art_tree.proofs.remove.are_fewest.Goals as goal

pub returns : goal.returns
returns c = counted c.args.count c.start.result.now refl (c.start.ensures ∙ c.capacity_range.ensures.start)
