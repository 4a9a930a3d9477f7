use Rattle.std.proofs.Common.{◌∙◌}
use Rattle.std.specs.Cmp.Lexicographic.{pointwise}
use Rattle.art_set.proofs.KeyOrders.{same-keys}
use Rattle.art_set.proofs.set.relations.SetPartialEq.eq.Goals as goal

pub returns : goal.returns
returns g c =
    c.eq.ensures ∙ same-keys g.K.PartialEq.eq c.self.inside.entries c.other.inside.entries ∙ (λ i. pointwise g.K.PartialEq.eq (c.self.view_is i) (c.other.view_is i))
