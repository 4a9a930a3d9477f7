use Rattle.std.proofs.Common.{◌∙◌}
use Rattle.std.specs.Cmp.Lexicographic.{slice_partial_cmp}
use Rattle.std.specs.Ordering.{partial_ordering_then}
use Rattle.art_map.proofs.map.comparing.MapPartialOrd.partial_cmp.Goals as goal

pub returns : goal.returns
returns g c =
    c.partial_order_of.ensures
    ∙ (λ i. slice_partial_cmp (λ p q. partial_ordering_then (g.K.PartialOrd.partial_cmp p.0 q.0) (g.V.PartialOrd.partial_cmp p.1 q.1)) (c.iter.ensures.entries i) (c.iter-2.ensures.entries i))
