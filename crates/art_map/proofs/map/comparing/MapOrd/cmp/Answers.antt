use Rattle.std.proofs.Common.{◌∙◌}
use Rattle.std.specs.Cmp.Lexicographic.{slice_cmp}
use Rattle.std.specs.Ordering.{ordering_then}
use Rattle.art_map.proofs.map.comparing.MapOrd.cmp.Goals as goal

pub returns : goal.returns
returns g c =
    c.order_of.ensures
    ∙ (λ i. slice_cmp (λ p q. ordering_then (g.K.Ord.cmp p.0 q.0) (g.V.Ord.cmp p.1 q.1)) (c.iter.ensures.entries i) (c.iter-2.ensures.entries i))
