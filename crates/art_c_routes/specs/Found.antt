-- What calls find among the routes, and what they write.
use Rattle.std.specs.Prelude.{◌≡◌, ◌⊎◌, ℕ, Bool, List, map, Option, Some, None, if◌then◌else◌}
use Rattle.art_routes.specs.declared.address.Address.{Address}
use Rattle.art_routes.specs.Networks.{Block, network_around}
use Rattle.art_routes.specs.Tables.{IsLongest, NoneContains, at_or_after, behind}
use Rattle.art_routes.specs.UpTo.{ahead, at_or_before}
use Rattle.art_c_maps.specs.Buffers.{written}
use Rattle.art_c_routes.specs.Addresses.{address_bytes, byte_count}

-- the routes at a network or after it; only after it where it is not included
abbrev pub routes_from : Bool → Block → List (Block × ℕ) → List (Block × ℕ)
routes_from inclusive network routes = if inclusive then at_or_after network routes else behind network routes

-- the routes at a network or before it; only before it where it is not included
abbrev pub routes_to : Bool → Block → List (Block × ℕ) → List (Block × ℕ)
routes_to inclusive network routes = if inclusive then at_or_before network routes else ahead network routes

-- how many bytes the address of a route has, its length and its value
abbrev pub found_parts : Block × ℕ → ℕ × ℕ × ℕ
found_parts route = (byte_count route.0.address, route.0.length, route.1)

-- a buffer that begins with the address of this route, if there is one and it fits
abbrev pub address_written : Option (Block × ℕ) → List ℕ → List ℕ
address_written None buffer = buffer
address_written (Some route) buffer = written (address_bytes route.0.address) buffer

-- the lengths of routes
abbrev pub lengths_of : List (Block × ℕ) → List ℕ
lengths_of routes = map (λ route. route.0.length) routes

-- the length and the value of the longest route that contains an address, or 255 and the other value where none does
abbrev pub IsMatched : List (Block × ℕ) → Address → ℕ → ℕ × ℕ → Type 0
IsMatched routes address other found =
    (IsLongest routes address (network_around address found.0, found.1)) ⊎ ((found.0 ≡ 255) × (found.1 ≡ other) × NoneContains routes address)
