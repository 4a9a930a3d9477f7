-- The bytes by which networks are kept, and what is left of a search. Of public clauses one cites the bytes, which says
-- when a removal needs a node.
use Rattle.std.specs.Prelude.{◌≡◌, ◌⊎◌, ◌<◌, ◌≤◌, ℕ, ◌+◌, ◌-◌, ◌*◌, ◌/◌, ◌%◌, ◌^◌, List, [], ◌∷◌, Option, None, Some, get_or, take}
use Rattle.std.specs.Int.{w128, from_be_bytes}
use Rattle.art_routes.specs.declared.address.Address.{Address}
use Rattle.art_routes.specs.Networks.{Block, IsNetwork}
use Rattle.art_routes.specs.Strides.{kept, stride_at, strides, symbol}
use Rattle.art_routes.specs.Tables.{covering}

-- the bits of an address as the first of 128
abbrev pub left : Address → ℕ
left address = address.bits * 2 ^ (128 - address.width)

-- the bytes of a network: how many bits its addresses have, and the strides of the given ones
unfoldable pub key_text : Block → List ℕ
key_text network = network.address.width ∷ strides (network.length / 7) (network.length % 7) (left network.address)

-- the last byte of the network of the first bits of an address: of so many strides of seven, and some bits
unfoldable pub last_network_byte : Address → ℕ → ℕ → ℕ
last_network_byte address place rest = symbol (kept rest (stride_at place (left address))) rest

-- the network of a key: of its first byte, the bytes of the first address, and how many bits are given
abbrev pub block_of : List ℕ → List ℕ → ℕ → Block
block_of text octets count = record { address = record { width = get_or text 0 0; bits = from_be_bytes w128 octets }; length = count }

-- these bytes begin with those of the network
pub record KeyOf (bytes : List ℕ) (network : Block) : Type 0 where
  pub is_network : IsNetwork network
  pub text : take (network.length / 7 + 2) bytes ≡ key_text network

-- the network of the last address alone
abbrev pub last_network : Block → Block
last_network network = record {
  address = record { width = network.address.width; bits = network.address.bits + (2 ^ (network.address.width - network.length) - 1) };
  length = network.address.width;
}

-- a search for the routes that cover the first bits of an address, at most so many of them
abbrev pub IsSearch : Address → Option ℕ → Type 0
IsSearch address None = Unit {0}
IsSearch address (Some most) =
    ((address.width ≡ 32) ⊎ (address.width ≡ 128)) × (address.bits < 2 ^ address.width) × (most ≤ address.width)

-- the routes that it finds, the longest first
abbrev pub covering_left : {V : Type 0} → Address → Option ℕ → List (Block × V) → List (Block × V)
covering_left address None routes = []
covering_left address (Some most) routes = covering (record { address = address; length = most }) routes
