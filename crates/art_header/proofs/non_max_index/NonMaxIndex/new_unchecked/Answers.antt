use Rattle.std.proofs.Common.{rules}
use Rattle.art_header.proofs.non_max_index.NonMaxIndex.new_unchecked.Goals as goal

pub returns : goal.returns
returns c = search rules
