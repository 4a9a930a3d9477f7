use Rattle.std.proofs.Common.{length}
use Rattle.std.specs.declared.ops.Bound.TheVariants.{Included}
use Rattle.art_map.specs.Ranges.{is_from}
use Rattle.art_map.proofs.SplitLemmas.{IsSplit}
use Rattle.art_map.proofs.map.Map.split_off.Given as goal

-- the last entries are moved
abbrev pub invariant-each : goal.invariant-each
invariant-each g l =
    IsSplit (λ (entry : g.row.K.Denot × g.row.V.Denot). is_from g.Q.RadixQuery.compare (Included l.fn.from) entry.0) g.K.Ord.cmp g.K.KeyBytes.is_key g.K.KeyBytes.encoded l.initial.self l.self l.moved

abbrev pub decreases-each : goal.decreases-each
decreases-each g l = length l.self
