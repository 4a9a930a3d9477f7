use Rattle.std.proofs.Common.{rules}
use Rattle.art_bytes.proofs.slice_key.SliceKey.new.Goals as goal

pub returns : goal.returns
returns c = search rules
