use Rattle.std.proofs.Common.{arith, ◌∙◌}
use lib.Ieee.{binary32}
use Rattle.art_keys.proofs.FloatBits.{bits_below, bits_above}
use Rattle.art_keys.proofs.floats.rank_of_32.Goals as goal

pub returns-then-bits-lt-SIGN_32 : goal.returns-then-bits-lt-SIGN_32
returns-then-bits-lt-SIGN_32 c = bits_above binary32 _ (omega arith) ∙ omega arith

pub returns-else-bits-lt-SIGN_32 : goal.returns-else-bits-lt-SIGN_32
returns-else-bits-lt-SIGN_32 c = bits_below binary32 _ (omega arith) ∙ omega arith
