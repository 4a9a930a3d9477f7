use Rattle.std.proofs.Common.{refl}
use Rattle.art_nodes.proofs.commands.any_inner.AnyInner.remove_child.Goals as goal

pub returns-in-Node4 : goal.returns-in-Node4
returns-in-Node4 g c = record { child = rw c.in-Node4.is c.remove_child.ensures.child; removed = rw c.in-Node4.is c.remove_child.ensures.removed; sound = rw c.in-Node4.is c.remove_child.ensures.sound; kind = rw c.in-Node4.is refl }

pub returns-in-Node16 : goal.returns-in-Node16
returns-in-Node16 g c = record { child = rw c.in-Node16.is c.remove_child-in-Node16.ensures.child; removed = rw c.in-Node16.is c.remove_child-in-Node16.ensures.removed; sound = rw c.in-Node16.is c.remove_child-in-Node16.ensures.sound; kind = rw c.in-Node16.is refl }

pub returns-in-Node48 : goal.returns-in-Node48
returns-in-Node48 g c = record { child = rw c.in-Node48.is c.remove_child-in-Node48.ensures.child; removed = rw c.in-Node48.is c.remove_child-in-Node48.ensures.removed; sound = rw c.in-Node48.is c.remove_child-in-Node48.ensures.sound; kind = rw c.in-Node48.is refl }

pub returns-in-Node256 : goal.returns-in-Node256
returns-in-Node256 g c = record { child = rw c.in-Node256.is c.remove_child-in-Node256.ensures.child; removed = rw c.in-Node256.is c.remove_child-in-Node256.ensures.removed; sound = rw c.in-Node256.is c.remove_child-in-Node256.ensures.sound; kind = rw c.in-Node256.is refl }
