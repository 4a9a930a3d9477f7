use Rattle.std.proofs.Common.{rules}
use Rattle.art_header.proofs.non_max_index.NonMaxIndex.get.Goals as goal

pub returns-clause-value : goal.returns-clause-value
returns-clause-value c = search rules
