use Rattle.std.proofs.Common.{arith}
use Rattle.index.specs.Readings.{SayReading}
use Rattle.index.proofs.ReadingLemmas.{number_below}
use Rattle.index.proofs.reading.rows_after_header.Goals as goal

pub overflow_add-result : goal.overflow_add-result
overflow_add-result c =
    let bad = rw c.in-Err-BadLine.field-0-is at c.in-Err-BadLine.ensures.first_bad in
    omega (arith, number_below SayReading c.args.rows.now c.in-Err-BadLine.bad.number bad.1)
