-- The entries at the two ends of a dictionary.
use Rattle.std.specs.Prelude.{◌≡◌, ◌≢◌, ℕ, ◌+◌, List, Option, Result, IfSome, IfNone, IfOk, IsOk, OnErr}
use Rattle.std.specs.declared.cmp.Ordering.TheVariants.{Less, Greater}
use Rattle.art_bytes.specs.Text.{text_order}
use Rattle.art_header.specs.declared.node_type.NodeType.{NodeType}
use Rattle.art_nodes.specs.declared.pointers.OpaqueNodePtr.{OpaqueNodePtr}
use Rattle.art_arena.specs.Arena.{NodeArena, SameNodes}
use Rattle.art_arena.specs.declared.ends.End.{End}
use Rattle.art_arena.specs.declared.ends.End.TheVariants.{First, Last}
use Rattle.art_steps.specs.Art.{Art}
use Rattle.art_steps.specs.Dictionary.{IsEntry, HasEntry, IsEmpty, SameEntries}
use Rattle.art_steps.specs.Removal.{IsLeft, NeedsSmallerNode}
use Rattle.art_steps.specs.Room.{FreesOneEach, GrowsOnlyWhere, HasEntryRoom, LacksRoomToRemove}

-- no text of the others is less than this one, or none is greater
abbrev pub IsWithin : End → List ℕ → List ℕ → Type 0
IsWithin First text other = text_order text other ≢ Greater
IsWithin Last text other = text_order text other ≢ Less

module _ {K V : Type 0} {P : ℕ} (text : K → List ℕ) (arena : NodeArena K V P) (end : End) where
  -- this is the entry with the least text, or with the greatest
  pub record IsEndEntry (entry : K × V) : Type 0 where
    pub is_entry : IsEntry text arena entry
    pub within : (other : List ℕ) → HasEntry text arena other → IsWithin end (text entry.0) other

  -- there is such an entry, and this is true of its text
  abbrev pub EndMeets : (List ℕ → Type 0) → Type 0
  EndMeets Holds = (entry : K × V) × IsEndEntry entry × Holds (text entry.0)

module _ {K V : Type 0} {P : ℕ} (text : K → List ℕ) where
  -- the entry at one end of a tree is removed and returned, or None where there is no entry; or the
  -- removal is refused where that entry's leaf needs a smaller parent whose kind has no room
  pub record PopsEntry {E : Type 0} (old new : Art (NodeArena K V P) (OpaqueNodePtr K V P)) (end : End) (result : Result (Option (K × V)) E) : Type 0 where
    -- the entry at the end is returned
    pub removed : IfOk result (λ removed. IfSome removed (IsEndEntry text old.arena end))
    -- and only where there is no entry None, and nothing changes
    pub none : IfOk result (λ removed. IfNone removed (IsEmpty text old.arena))
    pub empty_kept : IfOk result (λ removed. IfNone removed (new ≡ old))
    -- every other entry and every other leaf is what it was
    pub left : IfOk result (λ removed. IfSome removed (λ (key, value). IsLeft text old.arena new.arena (text key)))
    -- it is refused only where a smaller node is needed, and then entries, nodes and root are unchanged
    pub refused : OnErr result (EndMeets text old.arena end (NeedsSmallerNode text old.arena))
    pub same_entries : OnErr result (SameEntries text old.arena new.arena)
    pub nodes_kept : OnErr result (SameNodes old.arena new.arena)
    pub root_kept : OnErr result (new.root ≡ old.root)
    -- and where there is no room for that node
    pub no_room : OnErr result ((kind : NodeType) × EndMeets text old.arena end (λ x. LacksRoomToRemove text old.arena old.root x kind))
    -- memory is taken only for it
    pub takes_no_memory : (¬ EndMeets text old.arena end (NeedsSmallerNode text old.arena)) → FreesOneEach old.arena new.arena
    pub memory : GrowsOnlyWhere old.arena new.arena (λ kind. EndMeets text old.arena end (λ x. LacksRoomToRemove text old.arena old.root x kind))
    -- room for some changes suffices, and there is room for one change fewer afterwards
    pub room_suffices : (count : ℕ) → HasEntryRoom old.arena (count + 1) → IsOk result
    pub room_lasts : (count : ℕ) → HasEntryRoom old.arena (count + 1) → HasEntryRoom new.arena count
