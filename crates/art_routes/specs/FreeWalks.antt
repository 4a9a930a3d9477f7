-- The walk along the networks of a length of which some are free. No public clause cites this.
use Rattle.std.specs.Prelude.{◌≡◌, ◌⊎◌, ◌≤◌, ◌<◌, ℕ, zero, suc, ◌-◌, ◌*◌, ◌/◌, ◌^◌, Bool, true, not, List, [], ◌∷◌, Contains, Option, None, Some, filter}
use Rattle.std.specs.List.{list_any}
use Rattle.art_routes.specs.declared.address.Address.{Address}
use Rattle.art_routes.specs.FreeNetworks.{overlaps}
use Rattle.art_routes.specs.Keys.{last_network}
use Rattle.art_routes.specs.Networks.{Block, IsNetwork, first_bits, network_around}

-- the network with these first bits, so many of them
abbrev pub part_at : ℕ → ℕ → ℕ → Block
part_at width length bits = record { address = record { width = width; bits = bits * 2 ^ (width - length) }; length = length }

-- so many of them, one after another
abbrev pub parts_from : ℕ → ℕ → ℕ → ℕ → List Block
parts_from width length bits zero = []
parts_from width length bits (suc count) = part_at width length bits ∷ parts_from width length (suc bits) count

-- from this one on, up to that of the last address
abbrev pub parts_up_to : ℕ → Option Block → List Block
parts_up_to last None = []
parts_up_to last (Some part) =
    parts_from part.address.width part.length (first_bits part.address part.length) (suc (last / 2 ^ (part.address.width - part.length)) - first_bits part.address part.length)

module _ {V : Type 0} (routes : List (Block × V)) where
  -- no route overlaps the network
  abbrev pub is_free : Block → Bool
  is_free part = not (list_any (λ route. overlaps route.0 part) routes)

  -- the free ones that are left
  abbrev pub free_left : ℕ → Option Block → List Block
  free_left last next = filter is_free (parts_up_to last next)

  -- a route is to this network, which overlaps the other
  pub record Overlapping (part network : Block) : Type 0 where
    pub is_network : IsNetwork network
    pub value : V
    pub listed : Contains routes (network, value)
    pub overlaps_it : overlaps network part ≡ true

-- the next one begins no later than the last address, which has as many bits
pub record IsBefore (last : ℕ) (part : Block) : Type 0 where
  pub is_network : IsNetwork part
  pub begins : part.address.bits ≤ last
  pub fits : last < 2 ^ part.address.width

-- there is no next one, or it is one
abbrev pub IsFreeWalk : ℕ → Option Block → Type 0
IsFreeWalk last None = Unit {0}
IsFreeWalk last (Some part) = IsBefore last part

-- the first network of so many bits inside a network, if there is one
abbrev pub IsFirstInside : Block → ℕ → Option Block → Type 0
IsFirstInside network length None = (length < network.length) ⊎ (network.address.width < length)
IsFirstInside network length (Some first) = (network.length ≤ length) × (length ≤ network.address.width) × (first ≡ network_around network.address length)

-- the network of so many bits behind an address, if it begins no later than the last one
abbrev pub IsBehind : Address → ℕ → ℕ → Option Block → Type 0
IsBehind address length last None = last / 2 ^ (address.width - length) ≤ first_bits address length
IsBehind address length last (Some part) =
    (first_bits address length < last / 2 ^ (address.width - length)) × (part ≡ part_at address.width length (suc (first_bits address length)))

-- the first network of so many bits inside a network that begins behind the last address of another one, if there is one
abbrev pub IsNextInside : Block → ℕ → Block → Option Block → Type 0
IsNextInside network length after next =
    (IsBehind (last_network after).address length (last_network network).address.bits next × (network.length ≤ length) × (length ≤ network.address.width))
    ⊎ ((next ≡ None) × ((length < network.length) ⊎ (network.address.width < length)))
