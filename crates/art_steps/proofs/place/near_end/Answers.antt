use Rattle.std.proofs.Common.{rules}
use Rattle.art_steps.proofs.place.near_end.Goals as goal

pub returns-then-mismatch-clause-end : goal.returns-then-mismatch-clause-end
returns-then-mismatch-clause-end c = search rules

pub returns-else-mismatch-clause-end : goal.returns-else-mismatch-clause-end
returns-else-mismatch-clause-end c = search rules
