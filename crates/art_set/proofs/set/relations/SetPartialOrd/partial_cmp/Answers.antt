use Rattle.std.proofs.Common.{◌∙◌}
use Rattle.std.specs.Cmp.Lexicographic.{slice_partial_cmp}
use Rattle.art_set.proofs.KeyOrders.{partial-order-of-keys}
use Rattle.art_set.proofs.set.relations.SetPartialOrd.partial_cmp.Goals as goal

pub returns : goal.returns
returns g c =
    c.partial_cmp.ensures ∙ partial-order-of-keys g.K.PartialOrd.partial_cmp c.self.inside.entries c.other.inside.entries
    ∙ (λ i. slice_partial_cmp g.K.PartialOrd.partial_cmp (c.self.view_is i) (c.other.view_is i))
