use Rattle.std.proofs.Common.{lit<, ◌≢◌, sym, ap, subst}
use Rattle.art_nodes.specs.Inner.{node_with_child}
use Rattle.art_nodes.specs.Pointers.{node_kind}
use Rattle.art_arena.specs.Arena.{Nothing, held}
use Rattle.art_arena.proofs.ArenaLemmas.{room-there, edited-there}
use Rattle.art_arena.proofs.arena.NodeArena+K+V+PREFIX_LEN.write_child.Goals as goal

pub write_child-requires : goal.write_child-requires
write_child-requires g c = (search, (lit< tt, room-there c.args.self.now c.args.key_fragment c.in-Node4.ensures.undone c.as_mut.ensures.node c.requires.has_room))

pub returns-in-Node4-clause-room : goal.returns-in-Node4-clause-room
returns-in-Node4-clause-room g c = c.as_mut.ensures.room c.write_child.new.self

pub returns-in-Node4-clause-written : goal.returns-in-Node4-clause-written
returns-in-Node4-clause-written g c = λ node is. edited-there (λ n. node_with_child n c.args.key_fragment c.args.child_pointer) c.args.self.now _ c.in-Node4.ensures.undone c.as_mut.ensures.node c.write_child.ensures.written (c.as_mut.ensures.changes c.write_child.new.self) is

pub write_child-requires-in-Node16 : goal.write_child-requires-in-Node16
write_child-requires-in-Node16 g c = (search, (lit< tt, room-there c.args.self.now c.args.key_fragment c.in-Node16.ensures.undone c.as_mut-in-Node16.ensures.node c.requires.has_room))

pub returns-in-Node16-clause-room : goal.returns-in-Node16-clause-room
returns-in-Node16-clause-room g c = c.as_mut-in-Node16.ensures.room c.write_child-in-Node16.new.self

pub returns-in-Node16-clause-written : goal.returns-in-Node16-clause-written
returns-in-Node16-clause-written g c = λ node is. edited-there (λ n. node_with_child n c.args.key_fragment c.args.child_pointer) c.args.self.now _ c.in-Node16.ensures.undone c.as_mut-in-Node16.ensures.node c.write_child-in-Node16.ensures.written (c.as_mut-in-Node16.ensures.changes c.write_child-in-Node16.new.self) is

pub write_child-requires-in-Node48 : goal.write_child-requires-in-Node48
write_child-requires-in-Node48 g c = (search, (lit< tt, room-there c.args.self.now c.args.key_fragment c.in-Node48.ensures.undone c.as_mut-in-Node48.ensures.node c.requires.has_room))

pub returns-in-Node48-clause-room : goal.returns-in-Node48-clause-room
returns-in-Node48-clause-room g c = c.as_mut-in-Node48.ensures.room c.write_child-in-Node48.new.self

pub returns-in-Node48-clause-written : goal.returns-in-Node48-clause-written
returns-in-Node48-clause-written g c = λ node is. edited-there (λ n. node_with_child n c.args.key_fragment c.args.child_pointer) c.args.self.now _ c.in-Node48.ensures.undone c.as_mut-in-Node48.ensures.node c.write_child-in-Node48.ensures.written (c.as_mut-in-Node48.ensures.changes c.write_child-in-Node48.new.self) is

pub write_child-requires-in-Node256 : goal.write_child-requires-in-Node256
write_child-requires-in-Node256 g c = (search, (lit< tt, room-there c.args.self.now c.args.key_fragment c.in-Node256.ensures.undone c.as_mut-in-Node256.ensures.node c.requires.has_room))

pub returns-in-Node256-clause-room : goal.returns-in-Node256-clause-room
returns-in-Node256-clause-room g c = c.as_mut-in-Node256.ensures.room c.write_child-in-Node256.new.self

pub returns-in-Node256-clause-written : goal.returns-in-Node256-clause-written
returns-in-Node256-clause-written g c = λ node is. edited-there (λ n. node_with_child n c.args.key_fragment c.args.child_pointer) c.args.self.now _ c.in-Node256.ensures.undone c.as_mut-in-Node256.ensures.node c.write_child-in-Node256.ensures.written (c.as_mut-in-Node256.ensures.changes c.write_child-in-Node256.new.self) is

pub unreachable-requires : goal.unreachable-requires
unreachable-requires g c = c.requires.inner (sym (ap node_kind c.in-LeafNode.ensures.undone))

pub as_mut-requires : goal.as_mut-requires
as_mut-requires g c = (search, (search, (search, (search, (search, (lit< tt, subst (λ p. held c.args.self.now p ≢ Nothing) (sym c.in-Node4.ensures.undone) c.requires.held))))))

pub as_mut-requires-in-Node16 : goal.as_mut-requires-in-Node16
as_mut-requires-in-Node16 g c = (search, (search, (search, (search, (search, (lit< tt, subst (λ p. held c.args.self.now p ≢ Nothing) (sym c.in-Node16.ensures.undone) c.requires.held))))))

pub as_mut-requires-in-Node48 : goal.as_mut-requires-in-Node48
as_mut-requires-in-Node48 g c = (search, (search, (search, (search, (search, (lit< tt, subst (λ p. held c.args.self.now p ≢ Nothing) (sym c.in-Node48.ensures.undone) c.requires.held))))))

pub as_mut-requires-in-Node256 : goal.as_mut-requires-in-Node256
as_mut-requires-in-Node256 g c = (search, (search, (search, (search, (search, (lit< tt, subst (λ p. held c.args.self.now p ≢ Nothing) (sym c.in-Node256.ensures.undone) c.requires.held))))))
