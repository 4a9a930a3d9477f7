use Rattle.std.proofs.Common.{arith}
use Rattle.art_nodes.proofs.ByteSetLemmas.{none_from, lowest_from}
use Rattle.art_nodes.proofs.inner_nodes.tables.byte_set.first_bit.Goals as goal

pub returns-then-bits-eq0-clause-none : goal.returns-then-bits-eq0-clause-none
returns-then-bits-eq0-clause-none c = none_from c.args.word c.args.from c.if-bits-eq0.true

pub returns-else-bits-eq0-clause-found : goal.returns-else-bits-eq0-clause-found
returns-else-bits-eq0-clause-found c = let low = lowest_from c.args.word c.args.from c.requires c.ranges.word.fits (omega (arith, c.if-bits-eq0.false)) in (low.0, low.1, low.2)

pub returns-else-bits-eq0-clause-first : goal.returns-else-bits-eq0-clause-first
returns-else-bits-eq0-clause-first c = let low = lowest_from c.args.word c.args.from c.requires c.ranges.word.fits (omega (arith, c.if-bits-eq0.false)) in low.3
