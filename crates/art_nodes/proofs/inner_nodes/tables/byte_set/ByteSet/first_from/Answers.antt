use Rattle.art_nodes.proofs.ByteSetLemmas.{none_through}
use Rattle.art_nodes.proofs.inner_nodes.tables.byte_set.ByteSet.first_from.Goals as goal

pub returns-in-Some-clause-first : goal.returns-in-Some-clause-first
returns-in-Some-clause-first c = none_through c.args.self.now.words c.args.from c.loop-index.index c.saturating_sub.result c.in-Some.bit c.loop-index.invariant c.saturating_sub.ensures c.in-Some.ensures.found.1 c.in-Some.ensures.first
