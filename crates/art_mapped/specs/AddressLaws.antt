-- IP addresses: octets determine the address, and keep its order. No public clause cites this.
use Rattle.std.specs.Prelude.{◌≡◌, ℕ, ◌+◌, ◌*◌, ◌/◌, ◌%◌, List, [], ◌∷◌, refl}
use Rattle.std.specs.Ordering.{nat_cmp, on}
use Rattle.std.specs.Net.Addr.{ipv4_octets, ipv6_segments, ipv6_octets, octets_of, segments_of}
use Rattle.std.specs.declared.net.Ipv4Addr.{Ipv4Addr}
use Rattle.std.specs.declared.net.Ipv6Addr.{Ipv6Addr}
use Rattle.std.proofs.Common.{sym, ap, ◌∙◌, arith, rules}
use Rattle.std.proofs.lemmas.Map.Lookups.{exact_bytes}
use Rattle.art_bytes.specs.Text.{text_order}
use Rattle.art_mapped.specs.Addresses.{IsIpv4, IsIpv6}
use Rattle.art_mapped.specs.DigitLaws.{order_of_two, then_assoc}
use Rattle.art_mapped.specs.Elements.{KeepsOrder}

-- addresses with the same octets are equal
pub same_ipv4 : (x y : Ipv4Addr) {bytes : List ℕ} → bytes ≡ ipv4_octets x → bytes ≡ ipv4_octets y → x ≡ y
same_ipv4 x y x_text y_text =
    let make : List ℕ → Ipv4Addr = λ octets. record { octets = octets } in
    ap make (sym x_text ∙ y_text)

-- segments come back from their octets
pub segments_of-octets_of : (segments : List ℕ) → segments_of (octets_of segments) ≡ segments
segments_of-octets_of [] = refl
segments_of-octets_of (s ∷ segments) =
    let whole : s / 256 * 256 + s % 256 ≡ s = omega arith in
    rw (whole, segments_of-octets_of segments) refl

pub same_ipv6 : (x y : Ipv6Addr) {bytes : List ℕ} → bytes ≡ ipv6_octets x → bytes ≡ ipv6_octets y → x ≡ y
same_ipv6 x y x_text y_text =
    let make : List ℕ → Ipv6Addr = λ segments. record { segments = segments } in
    ap make (sym (segments_of-octets_of (ipv6_segments x)) ∙ ap segments_of (sym x_text ∙ y_text) ∙ segments_of-octets_of (ipv6_segments y))

-- IPv4 addresses sort as their octets do
pub ipv4_keep : KeepsOrder IsIpv4 ipv4_octets (on ipv4_octets text_order) 4
ipv4_keep =
    record {
      some = search rules;
      long = λ x x_in. x_in.0;
      keeps = λ x y x_in y_in. refl;
      exact = λ x y tied. same_ipv4 x y refl (exact_bytes (ipv4_octets x) (ipv4_octets y) tied);
    }

-- segments compare as their octets do
order_of_segments : (xs ys : List ℕ) → text_order xs ys ≡ text_order (octets_of xs) (octets_of ys)
order_of_segments [] [] = refl
order_of_segments [] (y ∷ ys) = refl
order_of_segments (x ∷ xs) [] = refl
order_of_segments (x ∷ xs) (y ∷ ys) =
    let whole_x : x / 256 * 256 + x % 256 ≡ x = omega arith in
    let whole_y : y / 256 * 256 + y % 256 ≡ y = omega arith in
    let first = order_of_two 256 (x / 256) (y / 256) (x % 256) (y % 256) (omega arith) (omega arith) in
    let rest = order_of_segments xs ys in
    rw (rw (whole_x, whole_y) at first, rest) (then_assoc (nat_cmp (x / 256) (y / 256)) (nat_cmp (x % 256) (y % 256)) (text_order (octets_of xs) (octets_of ys)))

-- IPv6 addresses, whose segments std compares, sort as their octets do
pub ipv6_keep : KeepsOrder IsIpv6 ipv6_octets (on ipv6_segments text_order) 16
ipv6_keep =
    record {
      some = search rules;
      long = λ x x_in. x_in.0;
      keeps = λ x y x_in y_in. order_of_segments (ipv6_segments x) (ipv6_segments y);
      exact = λ x y tied. same_ipv6 x y refl (ap octets_of (exact_bytes (ipv6_segments x) (ipv6_segments y) tied));
    }
