-- The slab in which an arena keeps the nodes of one kind.
use Rattle.std.specs.Prelude.{◌≡◌, ◌≢◌, ℕ}
use Rattle.slab.specs.Slab.{Slab, get}
use Rattle.art_header.specs.declared.node_type.NodeType.{NodeType}
use Rattle.art_arena.specs.Arena.{Arena, Held, Nothing, held_under, held_option, room, capacity, slab_room}

-- the nodes of one kind by slab key, their spare capacity, and their capacity
pub record Contents (H L : Type 0) : Type 0 where
  pub nodes : ℕ → Held H L
  pub room : ℕ
  pub capacity : ℕ

module _ {H L : Type 0} where
  -- what an arena has of a kind
  abbrev pub contents : Arena H L → NodeType → Contents H L
  contents arena kind = record { nodes = held_under arena kind; room = room arena kind; capacity = capacity arena kind }

  -- what a slab has, where its nodes are held as this
  abbrev pub slab_contents : {N : Type 0} → (N → Held H L) → Slab N → Contents H L
  slab_contents held_as slab = record { nodes = λ key. held_option held_as (get slab key); room = slab_room slab; capacity = slab.capacity }

  -- each node is held as something, and no two as the same; the slab has what the arena has of the kind; a slab that is written is read; the other kinds are unchanged then
  pub record IsSlabOf {N : Type 0} (kind : NodeType) (held_as : N → Held H L) (slab_of : Arena H L → Slab N) (with_slab : Arena H L → Slab N → Arena H L) : Type 0 where
    pub is_held : (node : N) → held_as node ≢ Nothing
    pub one_node : (a b : N) → held_as a ≡ held_as b → a ≡ b
    pub slab_read : (arena : Arena H L) → contents arena kind ≡ slab_contents held_as (slab_of arena)
    pub slab_written : (arena : Arena H L) (slots : Slab N) → slab_of (with_slab arena slots) ≡ slots
    pub rest_kept : (arena : Arena H L) (slots : Slab N) (other : NodeType) → other ≢ kind → contents (with_slab arena slots) other ≡ contents arena other
