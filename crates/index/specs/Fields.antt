-- The fields of lines: addresses and times.
use Rattle.std.specs.Prelude.{◌≡◌, ◌⊎◌, ℕ, ℤ, List, FitsSigned}
use Rattle.std.specs.Int.{w64}
use Rattle.std.specs.Net.Addr.{ipv6_segments, embedded_segments}
use Rattle.std.specs.Net.Grammar.{IsIpv4Text, IsIpv6Text}
use Rattle.std.specs.Str.Parse.{IsNumeral, signed_digits_value, without_leading_sign}
use Rattle.std.specs.declared.net.Ipv4Addr.{Ipv4Addr}
use Rattle.std.specs.declared.net.Ipv6Addr.{Ipv6Addr}

-- the text writes an IPv6 address, or an IPv4 address a.b.c.d, which is ::ffff:a.b.c.d
abbrev pub IsAddress : List ℕ → Ipv6Addr → Type 0
IsAddress text address =
    IsIpv6Text text address ⊎ ((ip : Ipv4Addr) × IsIpv4Text text ip × (ipv6_segments address ≡ embedded_segments 0xffff ip))

-- the text writes a whole number of 64 bits: a sign or none, and decimal digits
abbrev pub IsTime : List ℕ → ℤ → Type 0
IsTime text time = IsNumeral 10 (without_leading_sign text) × (signed_digits_value 10 text ≡ time) × FitsSigned w64 time
