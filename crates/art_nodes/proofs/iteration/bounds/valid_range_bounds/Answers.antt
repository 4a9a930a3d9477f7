use Rattle.std.proofs.Common.{rules}
use Rattle.art_nodes.proofs.iteration.bounds.valid_range_bounds.Goals as goal

pub returns-in-Excluded-Excluded : goal.returns-in-Excluded-Excluded
returns-in-Excluded-Excluded c = search rules
