-- The statuses of calls on route tables, and what those write that find a route.
use Rattle.std.specs.Prelude.{◌≡◌, ◌≢◌, ◌⊎◌, ℕ, Option, Some, None, nat_le, if◌then◌else◌}
use Rattle.art_routes.specs.Networks.{Block}
use Rattle.art_c.specs.Statuses.{ART_BAD_NETWORK, ART_NONE, ART_NO_MAP, ART_NO_MEMORY, ART_SMALL_BUFFER, ART_SOME, IsDone}
use Rattle.art_c_routes.specs.Addresses.{byte_count}

-- no refusal of a call that takes a table and a network
abbrev pub IsRouted : ℕ → Type 0
IsRouted status = IsDone status × (status ≢ ART_BAD_NETWORK)

-- such a refusal
abbrev pub IsUnrouted : ℕ → Type 0
IsUnrouted status = (status ≡ ART_NO_MEMORY) ⊎ (status ≡ ART_NO_MAP) ⊎ (status ≡ ART_BAD_NETWORK)

-- whether there is such a route, for a buffer of so many bytes in which its address has to fit
abbrev pub route_status : Option (Block × ℕ) → ℕ → ℕ
route_status None room = ART_NONE
route_status (Some route) room = if nat_le (byte_count route.0.address) room then ART_SOME else ART_SMALL_BUFFER

-- how many bytes the address of the route has, or what was there before
abbrev pub width_or : Option (Block × ℕ) → ℕ → ℕ
width_or None before = before
width_or (Some route) before = byte_count route.0.address

-- the length and the value of the route whose address fits into so many bytes, or what was there before
abbrev pub length_in : Option (Block × ℕ) → ℕ → ℕ → ℕ
length_in None room before = before
length_in (Some route) room before = if nat_le (byte_count route.0.address) room then route.0.length else before

abbrev pub route_value_in : Option (Block × ℕ) → ℕ → ℕ → ℕ
route_value_in None room before = before
route_value_in (Some route) room before = if nat_le (byte_count route.0.address) room then route.1 else before
