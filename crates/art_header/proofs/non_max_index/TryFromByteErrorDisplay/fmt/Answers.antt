use Rattle.std.proofs.Common.{rules}
use Rattle.art_header.proofs.non_max_index.TryFromByteErrorDisplay.fmt.Goals as goal

pub returns-clause-writes : goal.returns-clause-writes
returns-clause-writes g c = search rules
