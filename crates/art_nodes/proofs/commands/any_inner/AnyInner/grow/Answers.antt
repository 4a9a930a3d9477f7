use Rattle.std.proofs.Common.{refl}
use Rattle.art_nodes.proofs.commands.any_inner.AnyInner.grow.Goals as goal

pub returns-in-Node4 : goal.returns-in-Node4
returns-in-Node4 g c = record { same = rw c.in-Node4.is c.grow.ensures.same; kind = rw c.in-Node4.is refl }

pub returns-in-Node16 : goal.returns-in-Node16
returns-in-Node16 g c = record { same = rw c.in-Node16.is c.grow-in-Node16.ensures.same; kind = rw c.in-Node16.is refl }

pub returns-in-Node48 : goal.returns-in-Node48
returns-in-Node48 g c = record { same = rw c.in-Node48.is c.grow-in-Node48.ensures.same; kind = rw c.in-Node48.is refl }
