use Rattle.std.proofs.Common.{◌∙◌, ◌&&◌}
use Rattle.std.specs.Cmp.Lexicographic.{pointwise}
use Rattle.art_map.proofs.map.comparing.MapPartialEq.eq.Goals as goal

pub returns-then-len : goal.returns-then-len
returns-then-len g c = c.are_same.ensures ∙ (λ i. pointwise (λ p q. g.K.PartialEq.eq p.0 q.0 && g.V.PartialEq.eq p.1 q.1) (c.iter.ensures.entries i) (c.iter-then-len.ensures.entries i))
