use Rattle.art_nodes.proofs.commands.any_inner.AnyInner.header.Goals as goal

pub returns-in-Node4 : goal.returns-in-Node4
returns-in-Node4 g c = record { header = rw c.in-Node4.is c.header.ensures.header; sound = rw c.in-Node4.is c.header.ensures.sound }

pub returns-in-Node16 : goal.returns-in-Node16
returns-in-Node16 g c = record { header = rw c.in-Node16.is c.header-in-Node16.ensures.header; sound = rw c.in-Node16.is c.header-in-Node16.ensures.sound }

pub returns-in-Node48 : goal.returns-in-Node48
returns-in-Node48 g c = record { header = rw c.in-Node48.is c.header-in-Node48.ensures.header; sound = rw c.in-Node48.is c.header-in-Node48.ensures.sound }

pub returns-in-Node256 : goal.returns-in-Node256
returns-in-Node256 g c = record { header = rw c.in-Node256.is c.header-in-Node256.ensures.header; sound = rw c.in-Node256.is c.header-in-Node256.ensures.sound }
