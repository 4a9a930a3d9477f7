use Rattle.std.proofs.Common.{refl}
use Rattle.art_c.proofs.held.Held.numbers_mut.Goals as goal

pub returns-in-Numbers : goal.returns-in-Numbers
returns-in-Numbers c = (rw c.in-Numbers.is refl, record { writes_back = tt; map = rw c.in-Numbers.is refl })
