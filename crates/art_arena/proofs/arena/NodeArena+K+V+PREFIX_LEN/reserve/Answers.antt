use Rattle.art_arena.proofs.arena.NodeArena+K+V+PREFIX_LEN.reserve.Goals as goal

pub returns-in-Node4 : goal.returns-in-Node4
returns-in-Node4 g c = rw c.in-Node4.is c.reserve_slots.ensures

pub returns-in-Node16 : goal.returns-in-Node16
returns-in-Node16 g c = rw c.in-Node16.is c.reserve_slots-in-Node16.ensures

pub returns-in-Node48 : goal.returns-in-Node48
returns-in-Node48 g c = rw c.in-Node48.is c.reserve_slots-in-Node48.ensures

pub returns-in-Node256 : goal.returns-in-Node256
returns-in-Node256 g c = rw c.in-Node256.is c.reserve_slots-in-Node256.ensures

pub returns-in-Leaf : goal.returns-in-Leaf
returns-in-Leaf g c = rw c.in-Leaf.is c.reserve_slots-in-Leaf.ensures
