-- The kinds of what a handle may hold.
use denote.RattleType.{RattleType}
use Rattle.std.specs.Prelude.{◌≡◌, Option, Some, None}
use Rattle.std.specs.Option.{option_map}
use Rattle.art_c_maps.specs.contracts.bytes_map.BytesMap as bytes
use Rattle.art_c_maps.specs.contracts.number_map.NumberMap as numbers
use Rattle.art_c_routes.specs.contracts.number_routes.NumberRoutes as routes
use Rattle.art_c.specs.declared.held.Held.{Held}
use Rattle.art_c.specs.declared.held.Held.TheVariants.{Bytes, Numbers, Routes}

-- the types of the maps, as the logic names them
abbrev pub bytes_row : RattleType
bytes_row = bytes.the_row

abbrev pub numbers_row : RattleType
numbers_row = numbers.the_row

abbrev pub routes_row : RattleType
routes_row = routes.the_row

-- the entries of a map of one kind, where it is of that kind
abbrev pub bytes_of : Held → Option bytes_row.Denot
bytes_of (Bytes entries) = Some entries
bytes_of (Numbers _) = None
bytes_of (Routes _) = None

abbrev pub numbers_of : Held → Option numbers_row.Denot
numbers_of (Bytes _) = None
numbers_of (Numbers entries) = Some entries
numbers_of (Routes _) = None

abbrev pub routes_of : Held → Option routes_row.Denot
routes_of (Bytes _) = None
routes_of (Numbers _) = None
routes_of (Routes entries) = Some entries

-- the entries that are found in what a handle holds, if it holds anything
abbrev pub found_in : {X : Type 0} → (Held → Option X) → Option Held → Option X
found_in find None = None
found_in find (Some held) = find held

-- what a handle holds, if anything, is made of the entries that are found in it
abbrev pub AreOfKind : {X : Type 0} → (X → Held) → (Held → Option X) → Option Held → Type 0
AreOfKind make find held = held ≡ option_map make (found_in find held)
