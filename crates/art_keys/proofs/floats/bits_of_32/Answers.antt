use Rattle.std.proofs.Common.{arith, sym}
use lib.Ieee.{binary32}
use Rattle.art_keys.proofs.FloatBits.{bits_below, bits_above}
use Rattle.art_keys.proofs.floats.bits_of_32.Goals as goal

pub returns-then-rank-lt-SIGN_32 : goal.returns-then-rank-lt-SIGN_32
returns-then-rank-lt-SIGN_32 c = sym (bits_below binary32 c.args.rank (omega arith))

pub returns-else-rank-lt-SIGN_32 : goal.returns-else-rank-lt-SIGN_32
returns-else-rank-lt-SIGN_32 c = sym (bits_above binary32 c.args.rank (omega arith))
