use Rattle.std.proofs.Common.{rules}
use Rattle.art_header.proofs.non_max_index.NonMaxIndexTryFromUsize.try_from.Goals as goal

pub returns-then-value-from : goal.returns-then-value-from
returns-then-value-from c = search rules
