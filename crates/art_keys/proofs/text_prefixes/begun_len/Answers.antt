use Rattle.std.proofs.Common.{arith}
use Rattle.art_keys.specs.PrefixLaws.{length-begun_from}
use Rattle.art_keys.proofs.text_prefixes.begun_len.Goals as goal

pub returns : goal.returns
returns c = omega (arith, c.saturating_sub.ensures, length-begun_from 8 (omega arith) c.args.prefix.now)
