use Rattle.std.proofs.Common.{arith, sym}
use Rattle.art_keys.specs.StringLaws as laws
use Rattle.art_keys.specs.Utf8Laws.{utf8_below}
use Rattle.art_keys.proofs.strings.raised_byte.Goals as goal

pub overflow_add-result : goal.overflow_add-result
overflow_add-result c =
    let same = c.as_bytes-bytes.ensures.value in
    rw same (omega (arith, utf8_below c.args.text.now c.utf8.text c.args.index 0 (rw same at c.if-index-bytes.true)))

pub returns-then-index-bytes : goal.returns-then-index-bytes
returns-then-index-bytes c =
    let same = c.as_bytes-bytes.ensures.value in
    rw same (sym (laws.raised_byte c.args.text.now c.args.index (rw same at c.if-index-bytes.true)))

pub returns-else-index-bytes : goal.returns-else-index-bytes
returns-else-index-bytes c =
    let same = c.as_bytes-bytes.ensures.value in
    sym (laws.raised_end c.args.text.now c.args.index (rw same at c.if-index-bytes.false))
