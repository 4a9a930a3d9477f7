-- Values lent, at an address, for a lifetime.
use base.Fml.{Fml, Lft, ftrue, ffalse, feq}
use denote.Builtin.{u64}
use denote.RattleType.{RattleType}
use denote.RawPtr.{Ptr, block_ptr, null_ptr}
use denote.Slice.{elements_shared}
use denote.Struct.Tuple.{Tuple}
use Rattle.std.specs.Coded.{Coded, coded_list, coded_ℕ}
use Rattle.std.specs.Prelude.{List, [], ◌∷◌}

-- how a lifetime is recorded
abbrev pub coded_life : Coded Lft
coded_life = coded_list coded_ℕ

-- this is the lifetime
abbrev pub is_life : Lft → Lft → Fml
is_life named life = feq Lft life named

-- the type of an entry by numbers, as the logic names it
abbrev pub entry_row : RattleType
entry_row = Tuple (u64 ∷ u64 ∷ [])

-- these values lie one behind another from an address on, and a `&` to each lasts for this lifetime
abbrev pub lent_run : (R : RattleType) → Lft → Ptr → List R.Denot → Fml
lent_run R life (block_ptr b o) items = elements_shared R items b o life
lent_run R life null_ptr [] = ftrue
lent_run R life null_ptr (item ∷ items) = ffalse
