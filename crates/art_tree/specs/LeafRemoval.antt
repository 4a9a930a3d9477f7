-- Removal of the entry of a leaf, by its text.
use Rattle.std.specs.Prelude.{◌≡◌, ℕ, ◌+◌, List, Some, Result, IfOk, IsOk, OnErr, OnOk}
use Rattle.art_header.specs.declared.node_type.NodeType.{NodeType}
use Rattle.art_nodes.specs.declared.pointers.OpaqueNodePtr.{OpaqueNodePtr}
use Rattle.art_arena.specs.Arena.{NodeArena, SameNodes}
use Rattle.art_steps.specs.Art.{Art}
use Rattle.art_steps.specs.Dictionary.{entry_at, SameEntries}
use Rattle.art_steps.specs.Removal.{IsLeft, NeedsSmallerNode}
use Rattle.art_steps.specs.Room.{FreesOneEach, GrowsOnlyWhere, HasEntryRoom, LacksRoomToRemove}

module _ {K V : Type 0} {P : ℕ} (text : K → List ℕ) where
  -- the entry of this text is removed from a tree and returned; or the removal is refused where the
  -- parent of its leaf needs a smaller node whose kind has no room
  pub record TakesEntry {E : Type 0} (old new : Art (NodeArena K V P) (OpaqueNodePtr K V P)) (x : List ℕ) (result : Result (K × V) E) : Type 0 where
    -- the entry is returned, and every other entry and every other leaf is what it was
    pub removed : IfOk result (λ entry. entry_at text old.arena x ≡ Some entry)
    pub left : OnOk result (IsLeft text old.arena new.arena x)
    -- it is refused only where a smaller node is needed, and then entries, nodes and root are unchanged
    pub refused : OnErr result (NeedsSmallerNode text old.arena x)
    pub same_entries : OnErr result (SameEntries text old.arena new.arena)
    pub nodes_kept : OnErr result (SameNodes old.arena new.arena)
    pub root_kept : OnErr result (new.root ≡ old.root)
    -- and where there is no room for that node
    pub no_room : OnErr result ((kind : NodeType) × LacksRoomToRemove text old.arena old.root x kind)
    -- memory is taken only for it
    pub takes_no_memory : (¬ NeedsSmallerNode text old.arena x) → FreesOneEach old.arena new.arena
    pub memory : GrowsOnlyWhere old.arena new.arena (LacksRoomToRemove text old.arena old.root x)
    -- room for some changes suffices, and there is room for one change fewer afterwards
    pub room_suffices : (count : ℕ) → HasEntryRoom old.arena (count + 1) → IsOk result
    pub room_lasts : (count : ℕ) → HasEntryRoom old.arena (count + 1) → HasEntryRoom new.arena count
