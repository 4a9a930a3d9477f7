use Rattle.std.proofs.Common.{◌∙◌}
use Rattle.std.specs.Cmp.Lexicographic.{slice_cmp}
use Rattle.art_set.proofs.KeyOrders.{order-of-keys}
use Rattle.art_set.proofs.set.relations.SetOrd.cmp.Goals as goal

pub returns : goal.returns
returns g c =
    c.cmp.ensures ∙ order-of-keys g.K.Ord.cmp c.self.inside.entries c.other.inside.entries ∙ (λ i. slice_cmp g.K.Ord.cmp (c.self.view_is i) (c.other.view_is i))
