use Rattle.std.proofs.Common.{rules}
use Rattle.art_header.proofs.non_max_index.NonMaxIndexDefault.default.Goals as goal

pub returns : goal.returns
returns c = search rules
