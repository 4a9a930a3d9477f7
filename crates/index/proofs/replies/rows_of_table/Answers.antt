use Rattle.std.proofs.Common.{All, subst, sym}
use Rattle.program_lines.proofs.Replies.{all_said}
use Rattle.index.specs.Keys.{HasTime}
use Rattle.index.specs.Readings.{SayReading}
use Rattle.index.specs.Rows.{IsIndex}
use Rattle.index.proofs.EntryLemmas.{values_of}
use Rattle.index.proofs.TimeLemmas.{time_fits}
use Rattle.index.proofs.replies.rows_of_table.Goals as goal

pub index_of-requires : goal.index_of-requires
index_of-requires c =
    subst (All HasTime) (sym c.deref.ensures.value) (all_said SayReading HasTime time_fits c.in_ok-table.ensures.all.0 c.in_ok-table.table.items c.in_ok-table.ensures.all.2)

pub returns-clause-table : goal.returns-clause-table
returns-clause-table c =
    (c.in_ok-table.table.items, c.in_ok-table.ensures.all, subst (λ table. IsIndex table (values_of c.in_ok-rows.rows)) c.deref.ensures.value c.in_ok-rows.ensures.rows, c.in_ok-rows.ensures.keyed)
