-- Addresses and networks, as numbers.
use Rattle.std.specs.Prelude.{◌≡◌, ◌≢◌, ◌⊎◌, ℕ, ◌-◌, ◌*◌, ◌/◌, ◌%◌, ◌^◌, ◌<◌, ◌≤◌, Bool, ◌==◌, ◌&&◌, nat_le, nat_lt}
use Rattle.std.specs.Net.Addr.{ipv4_bits, ipv6_bits}
use Rattle.std.specs.Ordering.{nat_cmp, ordering_then}
use Rattle.std.specs.declared.cmp.Ordering.{Ordering}
use Rattle.std.specs.declared.net.ip_addr.IpAddr.{IpAddr}
use Rattle.std.specs.declared.net.ip_addr.IpAddr.TheVariants.{V4, V6}
use Rattle.art_routes.specs.declared.address.Address.{Address}
use Rattle.art_routes.specs.declared.fault.NetworkFault.{NetworkFault}
use Rattle.art_routes.specs.declared.fault.NetworkFault.TheVariants.{LengthTooGreat, BitsBehindLength}

-- the address as a number: an IPv4 address has 32 bits, and an IPv6 address 128, of which the first is the highest
abbrev pub address_of : IpAddr → Address
address_of (V4 ip) = record { width = 32; bits = ipv4_bits ip }
address_of (V6 ip) = record { width = 128; bits = ipv6_bits ip }

-- the first address of a network, and how many bits its addresses begin with alike
pub record Block : Type 0 where
  pub address : Address
  pub length : ℕ

-- the number that the first bits of an address are, so many of them
abbrev pub first_bits : Address → ℕ → ℕ
first_bits address length = address.bits / 2 ^ (address.width - length)

-- a bit of the address is set behind the first ones, so many of them
abbrev pub HasBitsBehind : Address → ℕ → Type 0
HasBitsBehind address length = address.bits % 2 ^ (address.width - length) ≢ 0

-- no such bit is set, and the address has so many bits: 32 or 128
pub record IsNetwork (network : Block) : Type 0 where
  pub family : (network.address.width ≡ 32) ⊎ (network.address.width ≡ 128)
  pub bits : network.address.bits < 2 ^ network.address.width
  pub fits : network.length ≤ network.address.width
  pub none_behind : network.address.bits % 2 ^ (network.address.width - network.length) ≡ 0

-- the address has as many bits as those of the network, and begins with the same ones
abbrev pub contains : Block → Address → Bool
contains network address =
    address.width == network.address.width && first_bits address network.length == first_bits network.address network.length

-- the other network is this one, or a part of it
abbrev pub covers : Block → Block → Bool
covers network other = contains network other.address && nat_le network.length other.length

-- the other network is a part of this one, and not this one
abbrev pub is_around : Block → Block → Bool
is_around network other = covers network other && nat_lt network.length other.length

-- the network of the first bits of an address, so many of them
abbrev pub network_around : Address → ℕ → Block
network_around address length = record {
  address = record { width = address.width; bits = first_bits address length * 2 ^ (address.width - length) };
  length = length;
}

-- IPv4 comes before IPv6; then networks go by their first addresses, and of one first address the shorter comes first
abbrev pub network_order : Block → Block → Ordering
network_order a b =
    ordering_then (nat_cmp a.address.width b.address.width)
    (ordering_then (nat_cmp a.address.bits b.address.bits) (nat_cmp a.length b.length))

-- what is wrong with an address and a length that make no network
abbrev pub IsFault : Address → ℕ → NetworkFault → Type 0
IsFault address length LengthTooGreat = address.width < length
IsFault address length BitsBehindLength = (length ≤ address.width) × HasBitsBehind address length
