use Rattle.std.proofs.Common.{rules}
use Rattle.art_header.proofs.non_max_index.NonMaxIndex.new.Goals as goal

pub returns-then-value-eq255 : goal.returns-then-value-eq255
returns-then-value-eq255 c = search rules
