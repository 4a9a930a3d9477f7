use Rattle.std.proofs.Common.{refl}
use Rattle.art_c.proofs.held.Held.bytes_mut.Goals as goal

pub returns-in-Bytes : goal.returns-in-Bytes
returns-in-Bytes c = (rw c.in-Bytes.is refl, record { writes_back = tt; map = rw c.in-Bytes.is refl })
