-- Networks that no route of a table overlaps.
use Rattle.std.specs.Prelude.{◌≡◌, ◌<◌, ℕ, Bool, true, false, ◌||◌, List, All}
use Rattle.art_routes.specs.Keys.{last_network}
use Rattle.art_routes.specs.Networks.{Block, IsNetwork, covers}

-- one of the networks is the other or a part of it
abbrev pub overlaps : Block → Block → Bool
overlaps network other = covers network other || covers other network

-- this one, of so many bits, is the network or a part of it, and no route overlaps it
pub record IsFree {V : Type 0} (routes : List (Block × V)) (network : Block) (length : ℕ) (part : Block) : Type 0 where
  pub is_network : IsNetwork part
  pub of_length : part.length ≡ length
  pub inside : covers network part ≡ true
  pub free : All (λ route. overlaps route.0 part ≡ false) routes

-- this one begins behind the last address of the other
abbrev pub BeginsBehind : Block → Block → Type 0
BeginsBehind other part = (last_network other).address.bits < part.address.bits
