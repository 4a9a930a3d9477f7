-- IP addresses of either version: the number of the version, and the octets.
use Rattle.std.specs.Prelude.{ℕ, List, ◌∷◌}
use Rattle.std.specs.Net.Addr.{ipv4_octets, ipv6_octets}
use Rattle.std.specs.declared.net.ip_addr.IpAddr.{IpAddr}
use Rattle.std.specs.declared.net.ip_addr.IpAddr.TheVariants.{V4, V6}
use Rattle.art_mapped.specs.Addresses.{IsIpv4, IsIpv6}

-- the bytes of an address
abbrev pub ip_encoded : IpAddr → List ℕ
ip_encoded (V4 address) = 4 ∷ ipv4_octets address
ip_encoded (V6 address) = 6 ∷ ipv6_octets address

-- an address has as many octets as its version
abbrev pub IsIp : IpAddr → Type 0
IsIp (V4 address) = IsIpv4 address
IsIp (V6 address) = IsIpv6 address
