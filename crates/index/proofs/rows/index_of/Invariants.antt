use Rattle.index.proofs.RowLemmas.{HasRows}
use Rattle.index.proofs.rows.index_of.Given as goal

-- the entries are those of the rows so far
abbrev pub invariant-loop-place : goal.invariant-loop-place
invariant-loop-place l = HasRows l.table l.place l.index
