use Rattle.std.proofs.Common.{arith, sym}
use Rattle.art_keys.specs.PrefixLaws.{raised_bound_behind}
use Rattle.art_keys.specs.Utf8Laws.{utf8_below}
use Rattle.art_keys.proofs.text_prefixes.raised_bound_byte.Goals as goal

pub overflow_add-result : goal.overflow_add-result
overflow_add-result c =
    let same = c.as_bytes-bytes.ensures.value in
    rw same (omega (arith, utf8_below c.args.prefix.now c.utf8.prefix c.args.index 0 (rw same at c.if-index-bytes.true)))

pub returns-else-index-bytes : goal.returns-else-index-bytes
returns-else-index-bytes c =
    let same = c.as_bytes-bytes.ensures.value in
    sym (raised_bound_behind c.args.prefix.now c.args.edge c.args.index (rw same at c.if-index-bytes.false) (omega (arith, c.requires)))
