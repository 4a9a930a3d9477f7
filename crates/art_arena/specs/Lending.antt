-- What an arena ends as, where a slab of it is borrowed.
use Rattle.std.specs.Prelude.{ℕ}
use Rattle.std.specs.Borrow.{RattleType, Lends, Fml, MutBor}
use Rattle.slab.specs.Slab.{Slab, with_value}
use Rattle.art_arena.specs.Links.{with_value_at}
use Rattle.art_arena.specs.contracts.arena.Slabs as slabs
use Rattle.art_nodes.specs.contracts.inner_nodes.representations.inner_node_sorted.InnerNodeSorted as sorted
use Rattle.art_nodes.specs.contracts.inner_nodes.representations.inner_node_indirect.InnerNodeIndirect as indirect
use Rattle.art_nodes.specs.contracts.inner_nodes.representations.inner_node_direct.InnerNodeDirect as direct
use Rattle.art_nodes.specs.contracts.leaf_node.LeafNode as leaf
use Rattle.slab.specs.contracts.Slab.{the_row}
use Rattle.std.specs.contracts.alloc.Global as global
use Rattle.std.specs.contracts.impls.GlobalAllocator.TheImpl.{ghosts}
use denote.Param.{number}

-- the type of a slab of these values, as the logic names it
abbrev pub slab_row : RattleType → RattleType
slab_row T = the_row T global.the_row ghosts

-- the type of an arena, as the logic names it
abbrev pub arena_row : RattleType → RattleType → RattleType → RattleType
arena_row K V P = slabs.the_row (sorted.the_row K V P (number 4)) (sorted.the_row K V P (number 16)) (indirect.the_row K V P (number 48))
    (direct.the_row K V P) (leaf.the_row K V P)

-- an arena ends with the node that the caller left behind the reference under this slab key
abbrev pub LendsNode : (K V P N : RattleType) (slab_of : (arena_row K V P).Denot → Slab N.Denot)
    (with_slab : (arena_row K V P).Denot → Slab N.Denot → (arena_row K V P).Denot) →
    MutBor (arena_row K V P).Denot → ℕ → MutBor N.Denot → Fml
LendsNode K V P N slab_of with_slab a key r =
    Lends (arena_row K V P) N a r (λ node. with_slab a.now (with_value (slab_of a.now) key node))

-- an arena ends with the value that the caller left behind the reference in the leaf under this
-- slab key
abbrev pub LendsArenaValue : (K V P : RattleType) → MutBor (arena_row K V P).Denot → ℕ → MutBor V.Denot → Fml
LendsArenaValue K V P a key r = Lends (arena_row K V P) V a r (λ value. with_value_at a.now key value)
