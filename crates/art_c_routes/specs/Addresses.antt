-- Addresses and networks as C has them: bytes, the highest first, and a length.
use Rattle.std.specs.Prelude.{ℕ, ◌-◌, ◌*◌, ◌/◌, ◌%◌, ◌^◌, Bool, ◌==◌, ◌&&◌, ◌||◌, List, length, nat_le, if◌then◌else◌}
use Rattle.std.specs.Int.{w32, w128, from_be_bytes, to_be_bytes}
use Rattle.art_routes.specs.declared.address.Address.{Address}
use Rattle.art_routes.specs.Networks.{Block}

-- whether an address may have so many bytes: four of IPv4, or sixteen of IPv6
abbrev pub is_width : ℕ → Bool
is_width width = width == 4 || width == 16

abbrev pub is_address : List ℕ → Bool
is_address bytes = is_width (length bytes)

-- the address of these bytes, the first the highest
abbrev pub address_in : List ℕ → Address
address_in bytes = record {
  width = 8 * length bytes;
  bits = if length bytes == 4 then from_be_bytes w32 bytes else from_be_bytes w128 bytes;
}

-- the network of these bytes and this length
abbrev pub network_in : List ℕ → ℕ → Block
network_in bytes count = record { address = address_in bytes; length = count }

-- whether they are a network: they are an address, which has so many bits, and none behind them is set
abbrev pub is_network : List ℕ → ℕ → Bool
is_network bytes count =
    is_address bytes && (nat_le count (8 * length bytes) && (address_in bytes).bits % 2 ^ (8 * length bytes - count) == 0)

-- how many bytes an address has, and which
abbrev pub byte_count : Address → ℕ
byte_count address = address.width / 8

abbrev pub address_bytes : Address → List ℕ
address_bytes address = if address.width == 32 then to_be_bytes w32 address.bits else to_be_bytes w128 address.bits
