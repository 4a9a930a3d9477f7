-- Networks as texts: which network a text writes, what is wrong with one that writes none, and what is printed.
use Rattle.std.specs.Prelude.{◌≡◌, ◌==◌, ℕ, ◌≤◌, List, ◌++◌, codes, if◌then◌else◌}
use Rattle.std.specs.Fmt.{decimal}
use Rattle.std.specs.Int.{w32, w128, to_be_bytes}
use Rattle.std.specs.Net.Addr.{segments_of}
use Rattle.std.specs.Net.Grammar.{IsIpText}
use Rattle.std.specs.Net.Text.{ipv4_text, ipv6_text}
use Rattle.std.specs.declared.net.ip_addr.IpAddr.{IpAddr}
use Rattle.program_lines.specs.Lines.{HasNo, IsCutAt}
use Rattle.program_lines.specs.Numbers.{IsNumber}
use Rattle.art_routes.specs.declared.address.Address.{Address}
use Rattle.art_routes.specs.declared.fault.NetworkFault.{NetworkFault}
use Rattle.art_routes.specs.declared.fault.NetworkFault.TheVariants as Network
use Rattle.art_routes.specs.declared.fault.NetworkTextFault.{NetworkTextFault}
use Rattle.art_routes.specs.declared.fault.NetworkTextFault.TheVariants.{NoLength, BadAddress, BadLength, BitsBehindLength}
use Rattle.art_routes.specs.Networks.{Block, HasBitsBehind, IsNetwork, address_of}

-- the text writes this address, as std reads it
abbrev pub SayAddress : List ℕ → Address → Type 0
SayAddress text address = (ip : IpAddr) × IsIpText text ip × (address_of ip ≡ address)

-- the text is an address, `/` and the digits of a length, and they are those of this network
abbrev pub SayNetwork : List ℕ → Block → Type 0
SayNetwork text network =
    (prefix digits : List ℕ) × IsCutAt 47 text prefix digits × SayAddress prefix network.address
    × IsNumber digits network.length × IsNetwork network

-- the text writes no address
abbrev pub IsNoAddress : List ℕ → Type 0
IsNoAddress text = (address : Address) → ¬ SayAddress text address

-- what is wrong with digits that give no length which the address may have
abbrev pub IsLengthFault : List ℕ → Address → NetworkTextFault → Type 0
IsLengthFault digits address BadLength = (length : ℕ) → IsNumber digits length → ¬ (length ≤ address.width)
IsLengthFault digits address BitsBehindLength =
    (length : ℕ) × IsNumber digits length × (length ≤ address.width) × HasBitsBehind address length
IsLengthFault digits address _ = ⊥

-- what is wrong with a text that writes no network
abbrev pub IsTextFault : List ℕ → NetworkTextFault → Type 0
IsTextFault text NoLength = HasNo 47 text
IsTextFault text BadAddress = (prefix digits : List ℕ) × IsCutAt 47 text prefix digits × IsNoAddress prefix
IsTextFault text fault =
    (prefix digits : List ℕ) × (address : Address) × IsCutAt 47 text prefix digits × SayAddress prefix address × IsLengthFault digits address fault

-- how an address is printed: IPv4 as four decimal numbers with dots, IPv6 as RFC 5952 has it
abbrev pub address_text : Address → List ℕ
address_text address =
    if address.width == 32 then ipv4_text (to_be_bytes w32 address.bits) else ipv6_text (segments_of (to_be_bytes w128 address.bits))

-- how a network is printed: its first address, `/` and its length
abbrev pub network_text : Block → List ℕ
network_text network = address_text network.address ++ codes "/" ++ decimal network.length

-- what is printed of an address and a length that make no network
abbrev pub network_fault_text : NetworkFault → List ℕ
network_fault_text Network.LengthTooGreat = codes "length above the bits of the address"
network_fault_text Network.BitsBehindLength = codes "bits set behind the length"

-- and of a text that writes none
abbrev pub text_fault_text : NetworkTextFault → List ℕ
text_fault_text NoLength = codes "no length"
text_fault_text BadAddress = codes "bad address"
text_fault_text BadLength = codes "bad length"
text_fault_text BitsBehindLength = codes "bits set behind the length"
