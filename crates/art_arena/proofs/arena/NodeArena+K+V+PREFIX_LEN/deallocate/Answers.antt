use Rattle.std.proofs.Common.{lit<, ◌≢◌, ◌+◌, ◌≤◌, sym, ap, subst}
use Rattle.art_nodes.specs.Pointers.{node_kind}
use Rattle.art_arena.specs.Arena.{Changes, Nothing, SameOtherRoom, held, room}
use Rattle.art_arena.proofs.arena.NodeArena+K+V+PREFIX_LEN.deallocate.Goals as goal

pub unreachable-requires : goal.unreachable-requires
unreachable-requires g c = c.requires.inner (sym (ap node_kind c.in-LeafNode.ensures.undone))

pub deallocate_node_ptr-requires : goal.deallocate_node_ptr-requires
deallocate_node_ptr-requires g c =
    (search, (search, (search, (search, (search, (lit< tt, subst (λ p. held c.args.self.now p ≢ Nothing) (sym c.in-Node4.ensures.undone) c.requires.held))))))

pub returns-in-Node4-clause-removed : goal.returns-in-Node4-clause-removed
returns-in-Node4-clause-removed g c = subst (λ p. Changes c.args.self.now c.deallocate_node_ptr.new.self p Nothing) c.in-Node4.ensures.undone c.deallocate_node_ptr.ensures.removed

pub returns-in-Node4-clause-room : goal.returns-in-Node4-clause-room
returns-in-Node4-clause-room g c = subst (λ p. room c.args.self.now (node_kind p) ≤ room c.deallocate_node_ptr.new.self (node_kind p)) c.in-Node4.ensures.undone c.deallocate_node_ptr.ensures.room

pub returns-in-Node4-clause-takes_no_memory : goal.returns-in-Node4-clause-takes_no_memory
returns-in-Node4-clause-takes_no_memory g c = subst (λ p. room c.deallocate_node_ptr.new.self (node_kind p) ≤ room c.args.self.now (node_kind p) + 1) c.in-Node4.ensures.undone c.deallocate_node_ptr.ensures.takes_no_memory

pub returns-in-Node4-clause-other_room : goal.returns-in-Node4-clause-other_room
returns-in-Node4-clause-other_room g c = subst (λ p. SameOtherRoom c.args.self.now c.deallocate_node_ptr.new.self (node_kind p)) c.in-Node4.ensures.undone c.deallocate_node_ptr.ensures.other_room

pub returns-in-Node4-clause-capacity : goal.returns-in-Node4-clause-capacity
returns-in-Node4-clause-capacity g c = c.deallocate_node_ptr.ensures.capacity

pub deallocate_node_ptr-requires-in-Node16 : goal.deallocate_node_ptr-requires-in-Node16
deallocate_node_ptr-requires-in-Node16 g c =
    (search, (search, (search, (search, (search, (lit< tt, subst (λ p. held c.args.self.now p ≢ Nothing) (sym c.in-Node16.ensures.undone) c.requires.held))))))

pub returns-in-Node16-clause-removed : goal.returns-in-Node16-clause-removed
returns-in-Node16-clause-removed g c = subst (λ p. Changes c.args.self.now c.deallocate_node_ptr-in-Node16.new.self p Nothing) c.in-Node16.ensures.undone c.deallocate_node_ptr-in-Node16.ensures.removed

pub returns-in-Node16-clause-room : goal.returns-in-Node16-clause-room
returns-in-Node16-clause-room g c = subst (λ p. room c.args.self.now (node_kind p) ≤ room c.deallocate_node_ptr-in-Node16.new.self (node_kind p)) c.in-Node16.ensures.undone c.deallocate_node_ptr-in-Node16.ensures.room

pub returns-in-Node16-clause-takes_no_memory : goal.returns-in-Node16-clause-takes_no_memory
returns-in-Node16-clause-takes_no_memory g c = subst (λ p. room c.deallocate_node_ptr-in-Node16.new.self (node_kind p) ≤ room c.args.self.now (node_kind p) + 1) c.in-Node16.ensures.undone c.deallocate_node_ptr-in-Node16.ensures.takes_no_memory

pub returns-in-Node16-clause-other_room : goal.returns-in-Node16-clause-other_room
returns-in-Node16-clause-other_room g c = subst (λ p. SameOtherRoom c.args.self.now c.deallocate_node_ptr-in-Node16.new.self (node_kind p)) c.in-Node16.ensures.undone c.deallocate_node_ptr-in-Node16.ensures.other_room

pub returns-in-Node16-clause-capacity : goal.returns-in-Node16-clause-capacity
returns-in-Node16-clause-capacity g c = c.deallocate_node_ptr-in-Node16.ensures.capacity

pub deallocate_node_ptr-requires-in-Node48 : goal.deallocate_node_ptr-requires-in-Node48
deallocate_node_ptr-requires-in-Node48 g c =
    (search, (search, (search, (search, (search, (lit< tt, subst (λ p. held c.args.self.now p ≢ Nothing) (sym c.in-Node48.ensures.undone) c.requires.held))))))

pub returns-in-Node48-clause-removed : goal.returns-in-Node48-clause-removed
returns-in-Node48-clause-removed g c = subst (λ p. Changes c.args.self.now c.deallocate_node_ptr-in-Node48.new.self p Nothing) c.in-Node48.ensures.undone c.deallocate_node_ptr-in-Node48.ensures.removed

pub returns-in-Node48-clause-room : goal.returns-in-Node48-clause-room
returns-in-Node48-clause-room g c = subst (λ p. room c.args.self.now (node_kind p) ≤ room c.deallocate_node_ptr-in-Node48.new.self (node_kind p)) c.in-Node48.ensures.undone c.deallocate_node_ptr-in-Node48.ensures.room

pub returns-in-Node48-clause-takes_no_memory : goal.returns-in-Node48-clause-takes_no_memory
returns-in-Node48-clause-takes_no_memory g c = subst (λ p. room c.deallocate_node_ptr-in-Node48.new.self (node_kind p) ≤ room c.args.self.now (node_kind p) + 1) c.in-Node48.ensures.undone c.deallocate_node_ptr-in-Node48.ensures.takes_no_memory

pub returns-in-Node48-clause-other_room : goal.returns-in-Node48-clause-other_room
returns-in-Node48-clause-other_room g c = subst (λ p. SameOtherRoom c.args.self.now c.deallocate_node_ptr-in-Node48.new.self (node_kind p)) c.in-Node48.ensures.undone c.deallocate_node_ptr-in-Node48.ensures.other_room

pub returns-in-Node48-clause-capacity : goal.returns-in-Node48-clause-capacity
returns-in-Node48-clause-capacity g c = c.deallocate_node_ptr-in-Node48.ensures.capacity

pub deallocate_node_ptr-requires-in-Node256 : goal.deallocate_node_ptr-requires-in-Node256
deallocate_node_ptr-requires-in-Node256 g c =
    (search, (search, (search, (search, (search, (lit< tt, subst (λ p. held c.args.self.now p ≢ Nothing) (sym c.in-Node256.ensures.undone) c.requires.held))))))

pub returns-in-Node256-clause-removed : goal.returns-in-Node256-clause-removed
returns-in-Node256-clause-removed g c = subst (λ p. Changes c.args.self.now c.deallocate_node_ptr-in-Node256.new.self p Nothing) c.in-Node256.ensures.undone c.deallocate_node_ptr-in-Node256.ensures.removed

pub returns-in-Node256-clause-room : goal.returns-in-Node256-clause-room
returns-in-Node256-clause-room g c = subst (λ p. room c.args.self.now (node_kind p) ≤ room c.deallocate_node_ptr-in-Node256.new.self (node_kind p)) c.in-Node256.ensures.undone c.deallocate_node_ptr-in-Node256.ensures.room

pub returns-in-Node256-clause-takes_no_memory : goal.returns-in-Node256-clause-takes_no_memory
returns-in-Node256-clause-takes_no_memory g c = subst (λ p. room c.deallocate_node_ptr-in-Node256.new.self (node_kind p) ≤ room c.args.self.now (node_kind p) + 1) c.in-Node256.ensures.undone c.deallocate_node_ptr-in-Node256.ensures.takes_no_memory

pub returns-in-Node256-clause-other_room : goal.returns-in-Node256-clause-other_room
returns-in-Node256-clause-other_room g c = subst (λ p. SameOtherRoom c.args.self.now c.deallocate_node_ptr-in-Node256.new.self (node_kind p)) c.in-Node256.ensures.undone c.deallocate_node_ptr-in-Node256.ensures.other_room

pub returns-in-Node256-clause-capacity : goal.returns-in-Node256-clause-capacity
returns-in-Node256-clause-capacity g c = c.deallocate_node_ptr-in-Node256.ensures.capacity
