-- The octets of IP addresses.
use Rattle.std.specs.Prelude.{◌≡◌, ℕ, List, length, All}
use Rattle.std.specs.Net.Addr.{ipv4_octets, ipv6_octets}
use Rattle.std.specs.declared.net.Ipv4Addr.{Ipv4Addr}
use Rattle.std.specs.declared.net.Ipv6Addr.{Ipv6Addr}
use Rattle.art_bytes.specs.Text.{IsByte}

-- exactly so many octets, each a byte
abbrev pub AreOctets : ℕ → List ℕ → Type 0
AreOctets n octets = (length octets ≡ n) × All IsByte octets

-- an IPv4 address has four octets
abbrev pub IsIpv4 : Ipv4Addr → Type 0
IsIpv4 address = AreOctets 4 (ipv4_octets address)

-- an IPv6 address has sixteen octets
abbrev pub IsIpv6 : Ipv6Addr → Type 0
IsIpv6 address = AreOctets 16 (ipv6_octets address)
