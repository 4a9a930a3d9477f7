use Rattle.std.proofs.Common.{arith, sym}
use lib.Ieee.{binary64}
use Rattle.art_keys.proofs.FloatBits.{bits_below, bits_above}
use Rattle.art_keys.proofs.floats.bits_of_64.Goals as goal

pub returns-then-rank-lt-SIGN_64 : goal.returns-then-rank-lt-SIGN_64
returns-then-rank-lt-SIGN_64 c = sym (bits_below binary64 c.args.rank (omega arith))

pub returns-else-rank-lt-SIGN_64 : goal.returns-else-rank-lt-SIGN_64
returns-else-rank-lt-SIGN_64 c = sym (bits_above binary64 c.args.rank (omega arith))
