use Rattle.std.proofs.Common.{refl}
use Rattle.art_nodes.proofs.commands.any_inner.AnyInner.insert_child.Goals as goal

pub returns-in-Node4 : goal.returns-in-Node4
returns-in-Node4 g c = record { old_child = rw c.in-Node4.is c.insert_child.ensures.old_child; written = rw c.in-Node4.is c.insert_child.ensures.written; kind = rw c.in-Node4.is refl }

pub returns-in-Node16 : goal.returns-in-Node16
returns-in-Node16 g c = record { old_child = rw c.in-Node16.is c.insert_child-in-Node16.ensures.old_child; written = rw c.in-Node16.is c.insert_child-in-Node16.ensures.written; kind = rw c.in-Node16.is refl }

pub returns-in-Node48 : goal.returns-in-Node48
returns-in-Node48 g c = record { old_child = rw c.in-Node48.is c.insert_child-in-Node48.ensures.old_child; written = rw c.in-Node48.is c.insert_child-in-Node48.ensures.written; kind = rw c.in-Node48.is refl }

pub returns-in-Node256 : goal.returns-in-Node256
returns-in-Node256 g c = record { old_child = rw c.in-Node256.is c.insert_child-in-Node256.ensures.old_child; written = rw c.in-Node256.is c.insert_child-in-Node256.ensures.written; kind = rw c.in-Node256.is refl }
