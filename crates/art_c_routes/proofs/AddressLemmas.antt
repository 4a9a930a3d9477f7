-- Addresses that are read from bytes, and networks.
use Rattle.std.proofs.Common.{◌≡◌, ◌∙◌, ℕ, ◌^◌, ◌<◌, List, length, if◌then◌else◌, sym, ap, arith}
use Rattle.std.specs.Int.{w32, w128, from_be_bytes}
use Rattle.std.specs.Net.Addr.{IsIpv4OfBits, IsIpv6OfBits}
use Rattle.std.specs.Prelude.{◌==◌}
use Rattle.std.specs.declared.net.ipv4_addr.Ipv4Addr.{Ipv4Addr}
use Rattle.std.specs.declared.net.ipv6_addr.Ipv6Addr.{Ipv6Addr}
use Rattle.std.specs.declared.net.ip_addr.IpAddr.TheVariants.{V4, V6}
use Rattle.art_routes.specs.declared.address.Address.{Address}
use Rattle.art_routes.specs.Networks.{address_of}
use Rattle.art_routes.proofs.ByteLemmas.{number_of_ipv4, number_of_ipv6}
use Rattle.art_c_routes.specs.Addresses.{address_in}

same_address : (a b : Address) → a.width ≡ b.width → a.bits ≡ b.bits → a ≡ b
same_address a b widths bits i = record { width = widths i; bits = bits i }

pub in_four : (ip : Ipv4Addr) (bytes : List ℕ) (bits : ℕ) → length bytes ≡ 4 → bits ≡ from_be_bytes w32 bytes → bits < 2 ^ 32 → IsIpv4OfBits ip bits → address_of (V4 ip) ≡ address_in bytes
in_four ip bytes bits four read fits is =
    same_address (address_of (V4 ip)) (address_in bytes) (omega (arith, four))
    (number_of_ipv4 ip bits fits is ∙ read ∙ sym (ap (λ n. if n == 4 then from_be_bytes w32 bytes else from_be_bytes w128 bytes) four))

pub in_sixteen : (ip : Ipv6Addr) (bytes : List ℕ) (bits : ℕ) → length bytes ≡ 16 → bits ≡ from_be_bytes w128 bytes → bits < 2 ^ 128 → IsIpv6OfBits ip bits → address_of (V6 ip) ≡ address_in bytes
in_sixteen ip bytes bits sixteen read fits is =
    same_address (address_of (V6 ip)) (address_in bytes) (omega (arith, sixteen))
    (number_of_ipv6 ip bits fits is ∙ read ∙ sym (ap (λ n. if n == 4 then from_be_bytes w32 bytes else from_be_bytes w128 bytes) sixteen))
