-- What a handle owns, and the entries of the map behind it.
use base.Fml.{Fml, feq}
use base.Stored.{Coded}
use denote.RattleType.{RattleType}
use denote.RawPtr.{Ptr, null_ptr}
use Rattle.std.specs.Prelude.{List, [], Option, Some, None}
use Rattle.std.specs.Box.Ownership.{box_owns}
use Rattle.std.specs.Coded.{coded_option}
use Rattle.std.specs.Global.{Global}
use Rattle.std_heap.specs.contracts.GlobalAllocator.TheImpl.{ghosts}
use Rattle.art_c.specs.contracts.held.Held as held

-- what a box of this value owns; where there is none the address is null
abbrev pub owns_behind : (R : RattleType) → Global → Ptr → Option R.Denot → Fml
owns_behind R alloc p None = feq Ptr p null_ptr
owns_behind R alloc p (Some value) = box_owns (ghosts.dealloc_token alloc) R p value

-- the type of what a handle holds, as the logic names it
abbrev pub held_row : RattleType
held_row = held.the_row

-- how it is recorded
abbrev pub coded_behind : (R : RattleType) → Coded (Option R.Denot)
coded_behind R = coded_option R.coded

-- the entries of the map behind a handle, and none where none is
abbrev pub held_entries : {X : Type 0} → Option (List X) → List X
held_entries None = []
held_entries (Some entries) = entries
