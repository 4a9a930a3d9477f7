use Rattle.std.proofs.Common.{arith, ◌∙◌}
use lib.Ieee.{binary64}
use Rattle.art_keys.proofs.FloatBits.{bits_below, bits_above}
use Rattle.art_keys.proofs.floats.rank_of_64.Goals as goal

pub returns-then-bits-lt-SIGN_64 : goal.returns-then-bits-lt-SIGN_64
returns-then-bits-lt-SIGN_64 c = bits_above binary64 _ (omega arith) ∙ omega arith

pub returns-else-bits-lt-SIGN_64 : goal.returns-else-bits-lt-SIGN_64
returns-else-bits-lt-SIGN_64 c = bits_below binary64 _ (omega arith) ∙ omega arith
