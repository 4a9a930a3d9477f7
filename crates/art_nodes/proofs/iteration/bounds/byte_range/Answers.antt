use Rattle.std.proofs.Common.{rules}
use Rattle.art_nodes.proofs.iteration.bounds.byte_range.Goals as goal

pub returns-in-Excluded-end-clause-end : goal.returns-in-Excluded-end-clause-end
returns-in-Excluded-end-clause-end c = search

pub returns-in-Included-end-clause-first : goal.returns-in-Included-end-clause-first
returns-in-Included-end-clause-first c = search rules

pub returns-in-Unbounded-end-clause-first : goal.returns-in-Unbounded-end-clause-first
returns-in-Unbounded-end-clause-first c = search rules
