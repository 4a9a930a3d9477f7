use Rattle.std.proofs.Common.{refl}
use Rattle.art_c.proofs.held.Held.routes_mut.Goals as goal

pub returns-in-Routes : goal.returns-in-Routes
returns-in-Routes c = (rw c.in-Routes.is refl, record { writes_back = tt; table = rw c.in-Routes.is refl })
