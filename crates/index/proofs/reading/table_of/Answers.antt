use Rattle.index.proofs.ReadingLemmas.{absent_bad, given_bad}
use Rattle.index.proofs.reading.table_of.Goals as goal

pub returns-then-not-has_header-clause-first_bad : goal.returns-then-not-has_header-clause-first_bad
returns-then-not-has_header-clause-first_bad c = rw c.if-not-has_header.true (absent_bad c.args.file.now c.said_whole.result c.said_whole.ensures.first_bad c.said_whole.ensures.fault)

pub returns-in-Ok-clause-first_bad : goal.returns-in-Ok-clause-first_bad
returns-in-Ok-clause-first_bad c = rw c.if-not-has_header.false (given_bad c.args.file.now c.in-Ok.rows.now c.rows_after_header.result c.in-Ok.ensures.rows c.rows_after_header.ensures.first_bad)
