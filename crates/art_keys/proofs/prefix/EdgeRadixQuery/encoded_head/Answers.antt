use Rattle.std.proofs.Common.{sym}
use Rattle.art_keys.specs.PrefixLaws.{head_of_highest}
use Rattle.art_keys.proofs.prefix.EdgeRadixQuery.encoded_head.Goals as goal

pub returns-in-Highest : goal.returns-in-Highest
returns-in-Highest g c = rw c.in-Highest.is (sym (head_of_highest c.args._skip c.ranges._skip.fits))
