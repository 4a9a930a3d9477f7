use Rattle.std.proofs.Common.{length}
use Rattle.routes.proofs.ReadLemmas.{IsReadTo}
use Rattle.routes.proofs.table.table_of.Given as goal

-- the lines before the rest are read
abbrev pub invariant-loop-rest : goal.invariant-loop-rest
invariant-loop-rest l = IsReadTo l.file l.rest l.number l.table.routes

abbrev pub decreases-loop-rest : goal.decreases-loop-rest
decreases-loop-rest l = length l.rest
