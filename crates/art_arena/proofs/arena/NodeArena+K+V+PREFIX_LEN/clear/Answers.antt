use Rattle.std.proofs.Common.{◌≡◌, ◌∙◌, is_some, count_by, [], ap, arith}
use Rattle.slab.specs.Slab.{Slab, slab_len}
use Rattle.art_header.specs.declared.node_type.NodeType.{NodeType}
use Rattle.art_header.specs.declared.node_type.NodeType.TheVariants.{Node4, Node16, Node48, Node256, Leaf}
use Rattle.art_arena.specs.Arena.{Arena, capacity, room, slab_room}
use Rattle.art_arena.proofs.ArenaLemmas.{held-empty}
use Rattle.art_arena.proofs.arena.NodeArena+K+V+PREFIX_LEN.clear.Goals as goal

all-spare : {T : Type 0} (slab : Slab T) → slab.slots ≡ [] → slab_room slab ≡ slab.capacity
all-spare slab empty = let none : slab_len slab ≡ 0 = ap (count_by is_some) empty in omega (arith, none)

module _ {H L : Type 0} (new : Arena H L) where
  -- five slabs with no slots have all of their capacity to spare
  room-empty : new.node4.slots ≡ [] → new.node16.slots ≡ [] → new.node48.slots ≡ [] → new.node256.slots ≡ [] → new.leaf.slots ≡ [] → (kind : NodeType) → room new kind ≡ capacity new kind
  room-empty four sixteen many all leaves Node4 = all-spare new.node4 four
  room-empty four sixteen many all leaves Node16 = all-spare new.node16 sixteen
  room-empty four sixteen many all leaves Node48 = all-spare new.node48 many
  room-empty four sixteen many all leaves Node256 = all-spare new.node256 all
  room-empty four sixteen many all leaves Leaf = all-spare new.leaf leaves

  -- five slabs of the same capacities
  capacity-kept : (old : Arena H L) → new.node4.capacity ≡ old.node4.capacity → new.node16.capacity ≡ old.node16.capacity → new.node48.capacity ≡ old.node48.capacity → new.node256.capacity ≡ old.node256.capacity → new.leaf.capacity ≡ old.leaf.capacity → (kind : NodeType) → capacity new kind ≡ capacity old kind
  capacity-kept old four sixteen many all leaves Node4 = four
  capacity-kept old four sixteen many all leaves Node16 = sixteen
  capacity-kept old four sixteen many all leaves Node48 = many
  capacity-kept old four sixteen many all leaves Node256 = all
  capacity-kept old four sixteen many all leaves Leaf = leaves

pub returns-clause-empty : goal.returns-clause-empty
returns-clause-empty g c = λ pointer. held-empty (record { node4 = c.clear.new.self; node16 = c.clear-2.new.self; node48 = c.clear-3.new.self; node256 = c.clear-4.new.self; leaf = c.clear-5.new.self }) c.clear.ensures.empty c.clear-2.ensures.empty c.clear-3.ensures.empty c.clear-4.ensures.empty c.clear-5.ensures.empty pointer.node_type pointer.key

pub returns-clause-capacity : goal.returns-clause-capacity
returns-clause-capacity g c = λ kind. capacity-kept (record { node4 = c.clear.new.self; node16 = c.clear-2.new.self; node48 = c.clear-3.new.self; node256 = c.clear-4.new.self; leaf = c.clear-5.new.self }) (record { node4 = c.self.inside.node4; node16 = c.self.inside.node16; node48 = c.self.inside.node48; node256 = c.self.inside.node256; leaf = c.self.inside.leaf }) c.clear.ensures.capacity c.clear-2.ensures.capacity c.clear-3.ensures.capacity c.clear-4.ensures.capacity c.clear-5.ensures.capacity kind ∙ ap (λ arena. capacity arena kind) c.self.view_is

pub returns-clause-room : goal.returns-clause-room
returns-clause-room g c = λ kind. room-empty (record { node4 = c.clear.new.self; node16 = c.clear-2.new.self; node48 = c.clear-3.new.self; node256 = c.clear-4.new.self; leaf = c.clear-5.new.self }) c.clear.ensures.empty c.clear-2.ensures.empty c.clear-3.ensures.empty c.clear-4.ensures.empty c.clear-5.ensures.empty kind ∙ returns-clause-capacity g c kind
