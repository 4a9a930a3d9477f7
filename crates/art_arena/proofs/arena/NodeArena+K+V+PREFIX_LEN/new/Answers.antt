use Rattle.std.proofs.Common.{◌≡◌, arith}
use Rattle.slab.specs.Slab.{Slab}
use Rattle.art_header.specs.declared.node_type.NodeType.{NodeType}
use Rattle.art_header.specs.declared.node_type.NodeType.TheVariants.{Node4, Node16, Node48, Node256, Leaf}
use Rattle.art_arena.specs.Arena.{Arena, room, slab_room}
use Rattle.art_arena.proofs.ArenaLemmas.{held-empty}
use Rattle.art_arena.proofs.arena.NodeArena+K+V+PREFIX_LEN.new.Goals as goal

no-spare : {T : Type 0} (slab : Slab T) → slab.capacity ≡ 0 → slab_room slab ≡ 0
no-spare slab none = omega (arith, none)

-- five slabs without capacity have no spare capacity of any kind
room-empty : {H L : Type 0} (arena : Arena H L) → arena.node4.capacity ≡ 0 → arena.node16.capacity ≡ 0 → arena.node48.capacity ≡ 0 → arena.node256.capacity ≡ 0 → arena.leaf.capacity ≡ 0 → (kind : NodeType) → room arena kind ≡ 0
room-empty arena four sixteen many all leaves Node4 = no-spare arena.node4 four
room-empty arena four sixteen many all leaves Node16 = no-spare arena.node16 sixteen
room-empty arena four sixteen many all leaves Node48 = no-spare arena.node48 many
room-empty arena four sixteen many all leaves Node256 = no-spare arena.node256 all
room-empty arena four sixteen many all leaves Leaf = no-spare arena.leaf leaves

pub returns-clause-empty : goal.returns-clause-empty
returns-clause-empty g c = λ pointer. held-empty (record { node4 = c.new.result; node16 = c.new-2.result; node48 = c.new-3.result; node256 = c.new-4.result; leaf = c.new-5.result }) c.new.ensures.empty c.new-2.ensures.empty c.new-3.ensures.empty c.new-4.ensures.empty c.new-5.ensures.empty pointer.node_type pointer.key

pub returns-clause-no_room : goal.returns-clause-no_room
returns-clause-no_room g c = room-empty (record { node4 = c.new.result; node16 = c.new-2.result; node48 = c.new-3.result; node256 = c.new-4.result; leaf = c.new-5.result }) c.new.ensures.capacity c.new-2.ensures.capacity c.new-3.ensures.capacity c.new-4.ensures.capacity c.new-5.ensures.capacity
