use Rattle.std.proofs.Common.{lit<, ◌≢◌, sym, ap, subst, rules}
use Rattle.art_nodes.specs.Inner.{node_with_prefix_of}
use Rattle.art_nodes.specs.Pointers.{node_kind}
use Rattle.art_arena.specs.Arena.{Nothing, held}
use Rattle.art_arena.proofs.ArenaLemmas.{edited-there}
use Rattle.art_arena.proofs.arena.NodeArena+K+V+PREFIX_LEN.set_prefix.Goals as goal

pub returns-in-Node4-clause-prefix : goal.returns-in-Node4-clause-prefix
returns-in-Node4-clause-prefix g c = λ node is. edited-there (λ n. node_with_prefix_of n c.args.header.now) c.args.self.now _ c.in-Node4.ensures.undone c.as_mut.ensures.node c.set_prefix.ensures (c.as_mut.ensures.changes c.set_prefix.new.self) is

pub returns-in-Node4-clause-room : goal.returns-in-Node4-clause-room
returns-in-Node4-clause-room g c = c.as_mut.ensures.room c.set_prefix.new.self

pub returns-in-Node16-clause-prefix : goal.returns-in-Node16-clause-prefix
returns-in-Node16-clause-prefix g c = λ node is. edited-there (λ n. node_with_prefix_of n c.args.header.now) c.args.self.now _ c.in-Node16.ensures.undone c.as_mut-in-Node16.ensures.node c.set_prefix-in-Node16.ensures (c.as_mut-in-Node16.ensures.changes c.set_prefix-in-Node16.new.self) is

pub returns-in-Node16-clause-room : goal.returns-in-Node16-clause-room
returns-in-Node16-clause-room g c = c.as_mut-in-Node16.ensures.room c.set_prefix-in-Node16.new.self

pub returns-in-Node48-clause-prefix : goal.returns-in-Node48-clause-prefix
returns-in-Node48-clause-prefix g c = λ node is. edited-there (λ n. node_with_prefix_of n c.args.header.now) c.args.self.now _ c.in-Node48.ensures.undone c.as_mut-in-Node48.ensures.node c.set_prefix-in-Node48.ensures (c.as_mut-in-Node48.ensures.changes c.set_prefix-in-Node48.new.self) is

pub returns-in-Node48-clause-room : goal.returns-in-Node48-clause-room
returns-in-Node48-clause-room g c = c.as_mut-in-Node48.ensures.room c.set_prefix-in-Node48.new.self

pub returns-in-Node256-clause-prefix : goal.returns-in-Node256-clause-prefix
returns-in-Node256-clause-prefix g c = λ node is. edited-there (λ n. node_with_prefix_of n c.args.header.now) c.args.self.now _ c.in-Node256.ensures.undone c.as_mut-in-Node256.ensures.node (search rules) (c.as_mut-in-Node256.ensures.changes _) is

pub returns-in-Node256-clause-room : goal.returns-in-Node256-clause-room
returns-in-Node256-clause-room g c = c.as_mut-in-Node256.ensures.room _

pub unreachable-requires : goal.unreachable-requires
unreachable-requires g c = c.requires.inner (sym (ap node_kind c.in-LeafNode.ensures.undone))

pub as_mut-requires : goal.as_mut-requires
as_mut-requires g c = (search, (search, (search, (search, (search, (lit< tt, subst (λ p. held c.args.self.now p ≢ Nothing) (sym c.in-Node4.ensures.undone) c.requires.held))))))

pub as_mut-requires-in-Node16 : goal.as_mut-requires-in-Node16
as_mut-requires-in-Node16 g c = (search, (search, (search, (search, (search, (lit< tt, subst (λ p. held c.args.self.now p ≢ Nothing) (sym c.in-Node16.ensures.undone) c.requires.held))))))

pub as_mut-requires-in-Node48 : goal.as_mut-requires-in-Node48
as_mut-requires-in-Node48 g c = (search, (search, (search, (search, (search, (lit< tt, subst (λ p. held c.args.self.now p ≢ Nothing) (sym c.in-Node48.ensures.undone) c.requires.held))))))

pub as_mut-requires-in-Node256 : goal.as_mut-requires-in-Node256
as_mut-requires-in-Node256 g c = (search, (search, (search, (search, (search, (lit< tt, subst (λ p. held c.args.self.now p ≢ Nothing) (sym c.in-Node256.ensures.undone) c.requires.held))))))

pub set_prefix-requires : goal.set_prefix-requires
set_prefix-requires g c = (search, search)

pub set_prefix-requires-in-Node16 : goal.set_prefix-requires-in-Node16
set_prefix-requires-in-Node16 g c = (search, search)

pub set_prefix-requires-in-Node48 : goal.set_prefix-requires-in-Node48
set_prefix-requires-in-Node48 g c = (search, search)
