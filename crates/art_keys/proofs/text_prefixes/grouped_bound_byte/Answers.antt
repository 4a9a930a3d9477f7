use Rattle.std.proofs.Common.{arith, sym, ◌∙◌}
use Rattle.art_keys.specs.GroupLaws.{length-grouped_from}
use Rattle.art_keys.specs.Prefixes.{begun_from}
use Rattle.art_keys.specs.PrefixLaws.{begun_byte, byte_behind, length-begun_from}
use Rattle.art_keys.specs.declared.prefix.Edge.TheVariants.{Highest}
use Rattle.art_keys.proofs.text_prefixes.grouped_bound_byte.Goals as goal

pub grouped_byte-requires-then-index-begun_len : goal.grouped_byte-requires-then-index-begun_len
grouped_byte-requires-then-index-begun_len c =
    let prefix = c.args.prefix.now in
    omega (arith, c.begun_len.ensures, c.if-index-begun_len.true, length-grouped_from 8 (omega arith) prefix, length-begun_from 8 (omega arith) prefix)

pub returns-then-index-begun_len : goal.returns-then-index-begun_len
returns-then-index-begun_len c =
    rw c.in-Highest.is
    (c.grouped_byte-then-index-begun_len.ensures ∙ sym (begun_byte c.args.prefix.now c.args.index (omega (arith, c.begun_len.ensures, c.if-index-begun_len.true))))

pub returns-else-index-begun_len : goal.returns-else-index-begun_len
returns-else-index-begun_len c =
    let here = (rw c.in-Highest.is at c.requires) in
    rw c.in-Highest.is
    (sym (byte_behind (begun_from 8 c.args.prefix.now) Highest c.args.index (omega (arith, c.begun_len.ensures, c.if-index-begun_len.false)) (omega (arith, here))))
