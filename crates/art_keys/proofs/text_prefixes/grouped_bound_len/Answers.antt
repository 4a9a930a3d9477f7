use Rattle.std.proofs.Common.{arith, length-append}
use Rattle.art_keys.specs.Prefixes.{begun_from, highest}
use Rattle.art_keys.specs.PrefixLaws.{length-highest}
use Rattle.art_keys.proofs.text_prefixes.grouped_bound_len.Goals as goal

pub returns-in-Highest-clause-len : goal.returns-in-Highest-clause-len
returns-in-Highest-clause-len c =
    rw c.in-Highest.is (omega (arith, c.saturating_add.ensures, c.begun_len.ensures, length-append (begun_from 8 c.args.prefix.now) highest, length-highest))
