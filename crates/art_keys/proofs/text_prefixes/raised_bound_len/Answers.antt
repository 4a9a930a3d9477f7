use Rattle.std.proofs.Common.{arith}
use Rattle.art_keys.specs.PrefixLaws.{length-highest, length-raised_bound}
use Rattle.art_keys.specs.declared.prefix.Edge.TheVariants.{Highest}
use Rattle.art_keys.proofs.text_prefixes.raised_bound_len.Goals as goal

pub returns-in-Highest-clause-len : goal.returns-in-Highest-clause-len
returns-in-Highest-clause-len c =
    rw c.in-Highest.is (omega (arith, c.saturating_add.ensures, length-raised_bound c.args.prefix.now Highest, length-highest))
