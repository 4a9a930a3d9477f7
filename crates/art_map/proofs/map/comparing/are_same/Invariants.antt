use Rattle.std.proofs.Common.{◌≡◌, ◌&&◌, length}
use Rattle.std.specs.Cmp.Lexicographic.{pointwise}
use Rattle.art_map.proofs.map.comparing.are_same.Given as goal

-- what is left of both is the same where the whole is
abbrev pub invariant-each : goal.invariant-each
invariant-each g l =
    pointwise (λ p q. g.K.PartialEq.eq p.0 q.0 && g.V.PartialEq.eq p.1 q.1) l.left l.right ≡ pointwise (λ p q. g.K.PartialEq.eq p.0 q.0 && g.V.PartialEq.eq p.1 q.1) l.initial.left l.initial.right

abbrev pub decreases-each : goal.decreases-each
decreases-each g l = length l.left
