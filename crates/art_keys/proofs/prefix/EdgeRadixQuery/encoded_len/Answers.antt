use Rattle.std.proofs.Common.{arith}
use Rattle.art_keys.specs.PrefixLaws.{length-highest}
use Rattle.art_keys.proofs.prefix.EdgeRadixQuery.encoded_len.Goals as goal

pub returns-in-Highest-clause-len : goal.returns-in-Highest-clause-len
returns-in-Highest-clause-len g c = rw c.in-Highest.is (omega (arith, length-highest))
