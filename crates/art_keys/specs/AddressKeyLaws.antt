-- IP addresses of either version sort as their bytes. No public clause cites this.
use Rattle.std.specs.Prelude.{◌≡◌, refl}
use Rattle.std.specs.Ordering.{on}
use Rattle.std.specs.Net.Addr.{ipv4_octets, ipv6_octets, ipv6_segments}
use Rattle.std.specs.declared.cmp.Ordering.{Ordering}
use Rattle.std.specs.declared.cmp.Ordering.TheVariants.{Less, Greater}
use Rattle.std.specs.declared.net.Ipv4Addr.{Ipv4Addr}
use Rattle.std.specs.declared.net.Ipv6Addr.{Ipv6Addr}
use Rattle.std.specs.declared.net.ip_addr.IpAddr.{IpAddr}
use Rattle.std.specs.declared.net.ip_addr.IpAddr.TheVariants.{V4, V6}
use Rattle.std.proofs.Common.{arith}
use Rattle.std.proofs.lemmas.List.Elements.{All-cons}
use Rattle.art_bytes.specs.Text.{IsByte, IsText, text_order}
use Rattle.art_mapped.specs.AddressLaws.{ipv4_keep, ipv6_keep}
use Rattle.art_keys.specs.Encoding.{SortedBy}
use Rattle.art_keys.specs.EncodingLaws.{width_sorts}
use Rattle.art_keys.specs.AddressKeys.{ip_encoded, IsIp}

pub ips_sort : (order : IpAddr → IpAddr → Ordering)
    → ((a b : Ipv4Addr) → order (V4 a) (V4 b) ≡ on ipv4_octets text_order a b)
    → ((a : Ipv4Addr) (b : Ipv6Addr) → order (V4 a) (V6 b) ≡ Less)
    → ((a : Ipv6Addr) (b : Ipv4Addr) → order (V6 a) (V4 b) ≡ Greater)
    → ((a b : Ipv6Addr) → order (V6 a) (V6 b) ≡ on ipv6_segments text_order a b)
    → (x y : IpAddr) → IsIp x → IsIp y → SortedBy (order x y) (ip_encoded x) (ip_encoded y)
ips_sort order fours less more sixes (V4 a) (V4 b) x_is y_is = λ r s. rw (fours a b) (width_sorts ipv4_keep a b x_is y_is r s)
ips_sort order fours less more sixes (V4 a) (V6 b) x_is y_is = λ r s. rw (less a b) refl
ips_sort order fours less more sixes (V6 a) (V4 b) x_is y_is = λ r s. rw (more a b) refl
ips_sort order fours less more sixes (V6 a) (V6 b) x_is y_is = λ r s. rw (sixes a b) (width_sorts ipv6_keep a b x_is y_is r s)

pub ips_are_bytes : (x : IpAddr) → IsIp x → IsText (ip_encoded x)
ips_are_bytes (V4 a) is = All-cons IsByte 4 (ipv4_octets a) (omega arith) is.1
ips_are_bytes (V6 a) is = All-cons IsByte 6 (ipv6_octets a) (omega arith) is.1
