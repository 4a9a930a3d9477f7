use Rattle.art_nodes.proofs.commands.any_inner.AnyInner.lookup_child.Goals as goal

pub returns-in-Node4 : goal.returns-in-Node4
returns-in-Node4 g c = rw c.in-Node4.is c.lookup_child.ensures.child

pub returns-in-Node16 : goal.returns-in-Node16
returns-in-Node16 g c = rw c.in-Node16.is c.lookup_child-in-Node16.ensures.child

pub returns-in-Node48 : goal.returns-in-Node48
returns-in-Node48 g c = rw c.in-Node48.is c.lookup_child-in-Node48.ensures.child

pub returns-in-Node256 : goal.returns-in-Node256
returns-in-Node256 g c = rw c.in-Node256.is c.lookup_child-in-Node256.ensures.child
