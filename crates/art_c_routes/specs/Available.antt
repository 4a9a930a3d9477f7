-- Networks that no route overlaps, as C has them.
use Rattle.std.specs.Prelude.{◌≡◌, ◌≢◌, ◌↔◌, ℕ, Bool, ◌==◌, ◌&&◌, ◌||◌, List, AllPairs, Contains, flat_map, length}
use Rattle.std.specs.declared.cmp.Ordering.TheVariants.{Less}
use Rattle.art_routes.specs.FreeNetworks.{BeginsBehind, IsFree}
use Rattle.art_routes.specs.Networks.{Block, covers, network_order}
use Rattle.art_c_routes.specs.Addresses.{address_bytes, is_network, network_in}

-- no bytes, or the address of a network of so many bits inside this one
abbrev pub is_place : Block → ℕ → List ℕ → Bool
is_place network count after = length after == 0 || (is_network after count && covers network (network_in after count))

-- the networks of so many bits inside this one that no route overlaps, in order: those that begin behind a place, or all
-- where it has no bytes
pub record AreAvailable (routes : List (Block × ℕ)) (network : Block) (count : ℕ) (after : List ℕ) (free : List Block) : Type 0 where
  pub order : AllPairs (λ a b. network_order a b ≡ Less) free
  pub exactly : (part : Block) → Contains free part ↔ (IsFree routes network count part × (length after ≢ 0 → BeginsBehind (network_in after count) part))

-- their addresses, one behind another
abbrev pub joined_addresses : List Block → List ℕ
joined_addresses parts = flat_map (λ part. address_bytes part.address) parts
