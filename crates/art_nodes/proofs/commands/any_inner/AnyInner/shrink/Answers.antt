use Rattle.std.proofs.Common.{refl}
use Rattle.art_nodes.proofs.commands.any_inner.AnyInner.shrink.Goals as goal

pub returns-in-Node16 : goal.returns-in-Node16
returns-in-Node16 g c = record { same = rw c.in-Node16.is c.shrink.ensures; kind = rw c.in-Node16.is refl }

pub returns-in-Node48 : goal.returns-in-Node48
returns-in-Node48 g c = record { same = rw c.in-Node48.is c.shrink-in-Node48.ensures; kind = rw c.in-Node48.is refl }

pub returns-in-Node256 : goal.returns-in-Node256
returns-in-Node256 g c = record { same = rw c.in-Node256.is c.shrink-in-Node256.ensures; kind = rw c.in-Node256.is refl }
