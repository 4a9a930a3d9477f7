use Rattle.art_nodes.proofs.ByteSetLemmas.{none_below, highest_below}
use Rattle.art_nodes.proofs.inner_nodes.tables.byte_set.last_bit.Goals as goal

pub returns-then-bits-eq0-clause-none : goal.returns-then-bits-eq0-clause-none
returns-then-bits-eq0-clause-none c = none_below c.args.word c.args.end c.requires.fits c.if-bits-eq0.true

pub returns-else-bits-eq0-clause-found : goal.returns-else-bits-eq0-clause-found
returns-else-bits-eq0-clause-found c = let last = highest_below c.args.word c.args.end c.ilog2.result c.requires.fits c.ilog2.ensures.power_le c.ilog2.ensures.next_power_gt in (last.0, last.1)

pub returns-else-bits-eq0-clause-last : goal.returns-else-bits-eq0-clause-last
returns-else-bits-eq0-clause-last c = let last = highest_below c.args.word c.args.end c.ilog2.result c.requires.fits c.ilog2.ensures.power_le c.ilog2.ensures.next_power_gt in last.2
