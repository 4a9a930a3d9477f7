use Rattle.art_steps.proofs.Names.{◌∙◌, ap, arith, most_children}
use Rattle.art_steps.proofs.RemoveLemmas.ShrunkNode.{counted}
use Rattle.art_steps.proofs.added_child.is_full.Goals as goal

pub returns : goal.returns
returns g c = λ node is.
    let count = c.num_children.ensures.count node is in
    let most = c.end.ensures ∙ c.capacity_range.ensures.end ∙ ap most_children c.node_type.ensures in
    (counted c.num_children.result c.end.result.now count most, omega (arith, count, c.num_children.ensures.fits node is))

pub num_children-requires : goal.num_children-requires
num_children-requires g c = search
