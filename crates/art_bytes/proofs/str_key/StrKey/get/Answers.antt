use Rattle.std.proofs.Common.{rules}
use Rattle.art_bytes.proofs.str_key.StrKey.get.Goals as goal

pub returns : goal.returns
returns c = search rules
