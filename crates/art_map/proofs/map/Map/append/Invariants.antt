use Rattle.std.proofs.Common.{length}
use Rattle.art_map.proofs.MovingLemmas.{AreMoved}
use Rattle.art_map.proofs.map.Map.append.Given as goal

-- the entries that left the other map are in
abbrev pub invariant-each : goal.invariant-each
invariant-each g l = AreMoved g.K.Ord.cmp g.K.KeyBytes.is_key g.K.KeyBytes.encoded l.initial.self l.initial.other l.self l.other

abbrev pub decreases-each : goal.decreases-each
decreases-each g l = length l.other
