-- Texts of networks: each writes one network, and what is printed writes the network that it is printed for.
use Rattle.std.proofs.Common.{◌≡◌, ◌≢◌, ◌==◌, ◌∙◌, ◌⊎◌, inl, inr, ℕ, zero, suc, ◌*◌, ◌-◌, ◌%◌, ◌^◌, ◌<◌, ◌≤◌, List, [], ◌∷◌, Result, Ok, drop, take, length, refl, sym, ap, subst, arith, decimal, append_assoc}
use Rattle.std.specs.Prelude.{bytes_eq}
use Rattle.std.specs.Int.{IsInRange, w32, w128, to_be_bytes}
use Rattle.std.specs.Net.Addr.{ipv4_octets, ipv6_segments, octets_of, segments_of, IsIpv4OfBits, IsIpv6OfBits}
use Rattle.std.specs.Net.Grammar.{IsColonHex, IsDotted, IsIpText, Parses}
use Rattle.std.specs.Net.Text.{hex_groups_text, ipv4_text, ipv6_text}
use Rattle.std.specs.declared.net.ip_addr.IpAddr.{IpAddr}
use Rattle.std.specs.declared.net.ip_addr.IpAddr.TheVariants.{V4, V6}
use Rattle.std.specs.declared.net.ipv4_addr.Ipv4Addr.{Ipv4Addr}
use Rattle.std.specs.declared.net.ipv6_addr.Ipv6Addr.{Ipv6Addr}
use Rattle.std.proofs.lemmas.Bool.{cond_both}
use Rattle.std.proofs.lemmas.Fmt.{decimal_is_IsNumeral, length-decimal-le}
use Rattle.std.proofs.lemmas.List.Elements.{All-cons, All-from_get_or, All-weaker}
use Rattle.std.proofs.lemmas.Str.Parse.{digit_at}
use Rattle.std.proofs.NetLemmas.Alphabet.{All-hex_groups_text, All-ipv4_text, IsDigitOrDot, IsHexOrColon}
use Rattle.std.proofs.NetLemmas.Texts.{AllSegments, AllSegments-drop, IsColonHex-ipv6_text, IsDotted-ipv4_text}
use Rattle.std.proofs.NetLemmas.Theorems.{IsIpText_unique, Parses_gives}
use Rattle.art_mapped.specs.DigitLaws.{AreBytes, AreBytes-digits, length-digits}
use Rattle.art_mapped.specs.Numbers.{digits}
use Rattle.program_lines.specs.Lines.{HasNo, IsCutAt}
use Rattle.program_lines.specs.Numbers.{IsNumber}
use Rattle.program_lines.proofs.Cuts.{same_cut, cut_has_one}
use Rattle.art_routes.specs.declared.address.Address.{Address}
use Rattle.art_routes.specs.declared.fault.NetworkTextFault.{NetworkTextFault}
use Rattle.art_routes.specs.declared.fault.NetworkTextFault.TheVariants.{BadLength}
use Rattle.art_routes.specs.Networks.{Block, HasBitsBehind, IsNetwork, address_of}
use Rattle.art_routes.specs.Texts.{IsLengthFault, SayAddress, SayNetwork, address_text, network_text}
use Rattle.art_routes.specs.KeyLaws.{family_most, width_most}

-- the segments of sixteen bytes
segments_long : (n : ℕ) (octets : List ℕ) → length octets ≡ 2 * n → length (segments_of octets) ≡ n
segments_long n [] long = omega (arith, long)
segments_long n (a ∷ []) long = absurd (omega (arith, long))
segments_long zero (a ∷ b ∷ octets) long = absurd (omega (arith, long))
segments_long (suc n) (a ∷ b ∷ octets) long = ap suc (segments_long n octets (omega (arith, long)))

segments_fit : (octets : List ℕ) → AreBytes octets → AllSegments (segments_of octets)
segments_fit [] bytes k = omega arith
segments_fit (a ∷ []) bytes k = omega arith
segments_fit (a ∷ b ∷ octets) bytes zero = omega (arith, bytes 0, bytes 1)
segments_fit (a ∷ b ∷ octets) bytes (suc k) = segments_fit octets (λ i. bytes (suc (suc i))) k

-- what is printed of an address that is made of a number writes it
pub ipv4_spelled : (ip : Ipv4Addr) (n : ℕ) → IsIpv4OfBits ip n → IsDotted (ipv4_text (to_be_bytes w32 n)) (ipv4_octets ip)
unfolding IsIpv4OfBits
ipv4_spelled ip n is =
    subst (IsDotted (ipv4_text (to_be_bytes w32 n))) (sym is) (IsDotted-ipv4_text (digits 4 n) (length-digits 4 n) (AreBytes-digits 4 n))

pub ipv6_spelled : (ip : Ipv6Addr) (n : ℕ) → IsIpv6OfBits ip n → IsColonHex (ipv6_text (segments_of (to_be_bytes w128 n))) (ipv6_segments ip)
unfolding IsIpv6OfBits
ipv6_spelled ip n is =
    let octets = digits 16 n in
    subst (IsColonHex (ipv6_text (segments_of octets))) (sym is)
    (IsColonHex-ipv6_text (segments_of octets) (segments_long 8 octets (length-digits 16 n)) (segments_fit octets (AreBytes-digits 16 n)))

pub ipv4_shown : (ip : Ipv4Addr) (n : ℕ) → IsIpv4OfBits ip n → ipv4_text (ipv4_octets ip) ≡ ipv4_text (to_be_bytes w32 n)
unfolding IsIpv4OfBits
ipv4_shown ip n is = ap ipv4_text is

pub ipv6_shown : (ip : Ipv6Addr) (n : ℕ) → IsIpv6OfBits ip n → ipv6_text (ipv6_segments ip) ≡ ipv6_text (segments_of (to_be_bytes w128 n))
unfolding IsIpv6OfBits
ipv6_shown ip n is = ap ipv6_text is

-- a text writes one address, and one network
one_address : (text : List ℕ) (a b : Address) → SayAddress text a → SayAddress text b → a ≡ b
one_address text a b (ip, spelled, is) (other, again, also) = sym is ∙ ap address_of (IsIpText_unique text ip other spelled again) ∙ also

one_number : (word : List ℕ) (m n : ℕ) → IsNumber word m → IsNumber word n → m ≡ n
one_number word m n is also = sym is.value ∙ also.value

same_block : (a b : Block) → a.address ≡ b.address → a.length ≡ b.length → a ≡ b
same_block a b addresses lengths i = record { address = addresses i; length = lengths i }

one_network : (text : List ℕ) (a b : Block) → SayNetwork text a → SayNetwork text b → a ≡ b
one_network text a b (prefix, digits, cut, said, number, is) (other, rest, again, also, long, fits) =
    let same = same_cut 47 prefix other digits rest cut.1 again.1 (sym cut.0 ∙ again.0) in
    same_block a b (one_address prefix a.address b.address said (subst (λ p. SayAddress p b.address) (sym same.0) also))
    (one_number digits a.length b.length number (subst (λ d. IsNumber d b.length) (sym same.1) long))

pub no_slash : (text : List ℕ) → HasNo 47 text → (network : Block) → SayNetwork text network → ⊥
no_slash text none network (prefix, digits, cut, said, number, is) = cut_has_one 47 prefix digits (subst (HasNo 47) cut.0 none)

ip_width : (ip : IpAddr) → ((address_of ip).width ≡ 32) ⊎ ((address_of ip).width ≡ 128)
ip_width (V4 ip) = inl refl
ip_width (V6 ip) = inr refl

ip_most : (ip : IpAddr) → (address_of ip).width ≤ 128
ip_most ip = family_most (address_of ip).width (ip_width ip)

module _ (text prefix digits : List ℕ) (is : IsCutAt 47 text prefix digits) where
  pub no_address : ((ip : IpAddr) → IsIpText prefix ip → ⊥) → (network : Block) → SayNetwork text network → ⊥
  no_address none network (other, rest, cut, (ip, spelled, same_ip), number, fits) =
      let same = same_cut 47 prefix other digits rest is.1 cut.1 (sym is.0 ∙ cut.0) in
      none ip (subst (λ p. IsIpText p ip) (sym same.0) spelled)

  pub address_fault : ((ip : IpAddr) → IsIpText prefix ip → ⊥) → (address : Address) → SayAddress prefix address → ⊥
  address_fault none address (ip, spelled, same) = none ip spelled

  module _ (long : (n : ℕ) → IsNumber digits n → 128 < n) where
    pub no_length : (network : Block) → SayNetwork text network → ⊥
    no_length network (other, rest, cut, said, number, fits) =
        let same = same_cut 47 prefix other digits rest is.1 cut.1 (sym is.0 ∙ cut.0) in
        let much = long network.length (subst (λ d. IsNumber d network.length) (sym same.1) number) in
        absurd (omega (arith, much, fits.fits, width_most network fits))

    pub length_fault : (ip : IpAddr) → IsLengthFault digits (address_of ip) BadLength
    length_fault ip n number within = absurd (omega (arith, long n number, within, ip_most ip))

  module _ (ip : IpAddr) (spelled : IsIpText prefix ip) (count : ℕ) (number : IsNumber digits count) where
    pub said : (network : Block) → network ≡ record { address = address_of ip; length = count } → IsNetwork network → SayNetwork text network
    said network made fits =
        (prefix, digits, is, (ip, spelled, ap (λ n. n.address) (sym made)), subst (IsNumber digits) (ap (λ n. n.length) (sym made)) number, fits)

    -- a network that the text writes has this address and this length
    the_same : (network : Block) → SayNetwork text network → (network.address ≡ address_of ip) × (network.length ≡ count)
    the_same network (other, rest, cut, also, long, fits) =
        let same = same_cut 47 prefix other digits rest is.1 cut.1 (sym is.0 ∙ cut.0) in
        (one_address prefix network.address (address_of ip) (subst (λ p. SayAddress p network.address) (sym same.0) also) (ip, spelled, refl), one_number digits network.length count (subst (λ d. IsNumber d network.length) (sym same.1) long) number)

    pub too_long : (address_of ip).width < count → (network : Block) → SayNetwork text network → ⊥
    too_long above network says =
        let same = the_same network says in
        let fits = says.5.fits in
        absurd (omega (arith, above, fits, ap (λ a. a.width) same.0, same.1))

    pub too_long_fault : (address_of ip).width < count → IsLengthFault digits (address_of ip) BadLength
    too_long_fault above n also within = absurd (omega (arith, above, one_number digits n count also number, within))

    pub set_behind : HasBitsBehind (address_of ip) count → (network : Block) → SayNetwork text network → ⊥
    set_behind behind network says =
        let same = the_same network says in
        let none = says.5.none_behind in
        behind (sym (λ i. (same.0 i).bits % 2 ^ ((same.0 i).width - same.1 i)) ∙ none)

-- no address is printed with a slash
no_digit : (c : ℕ) → IsDigitOrDot c → c ≢ 47
no_digit c (inl within) same = absurd (omega (arith, within, same))
no_digit c (inr dot) same = absurd (omega (arith, dot, same))

no_hex : (c : ℕ) → IsHexOrColon c → c ≢ 47
no_hex c (inl within) same = absurd (omega (arith, within, same))
no_hex c (inr letter) same = absurd (omega (arith, letter, same))

no_slash_ipv4 : (octets : List ℕ) → AreBytes octets → HasNo 47 (ipv4_text octets)
no_slash_ipv4 octets bytes = All-weaker IsDigitOrDot (λ byte. byte ≢ 47) no_digit (ipv4_text octets) (All-ipv4_text octets bytes)

octets_fit : (segments : List ℕ) → AllSegments segments → AreBytes (octets_of segments)
octets_fit [] fits k = omega arith
octets_fit (s ∷ segments) fits zero = let high = fits 0 in omega (arith, high)
octets_fit (s ∷ segments) fits (suc zero) = omega arith
octets_fit (s ∷ segments) fits (suc (suc k)) = octets_fit segments (λ j. fits (suc j)) k

and_none : (c : ℕ) (bytes : List ℕ) → c ≢ 47 → HasNo 47 bytes → HasNo 47 (c ∷ bytes)
and_none c bytes other none = All-cons (λ byte. byte ≢ 47) c bytes other none

-- an IPv6 address that has an IPv4 one at its end
abbrev mapped_text : List ℕ → List ℕ
mapped_text last = 58 ∷ 58 ∷ 102 ∷ 102 ∷ 102 ∷ 102 ∷ 58 ∷ last

no_slash_mapped : (last : List ℕ) → HasNo 47 last → HasNo 47 (mapped_text last)
no_slash_mapped last none =
    let colon : 58 ≢ 47 = λ same. absurd (omega (arith, same)) in
    let letter : 102 ≢ 47 = λ same. absurd (omega (arith, same)) in
    let one = and_none 58 last colon none in
    let two = and_none 102 (58 ∷ last) letter one in
    let three = and_none 102 (102 ∷ 58 ∷ last) letter two in
    let four = and_none 102 (102 ∷ 102 ∷ 58 ∷ last) letter three in
    let five = and_none 102 (102 ∷ 102 ∷ 102 ∷ 58 ∷ last) letter four in
    let six = and_none 58 (102 ∷ 102 ∷ 102 ∷ 102 ∷ 58 ∷ last) colon five in
    and_none 58 (58 ∷ 102 ∷ 102 ∷ 102 ∷ 102 ∷ 58 ∷ last) colon six

no_slash_ipv6 : (segments : List ℕ) → AllSegments segments → HasNo 47 (ipv6_text segments)
unfolding ipv6_text
no_slash_ipv6 segments fits =
    let last = ipv4_text (octets_of (drop 6 segments)) in
    cond_both (bytes_eq (take 6 segments) (0 ∷ 0 ∷ 0 ∷ 0 ∷ 0 ∷ 0xffff ∷ [])) (mapped_text last) (hex_groups_text segments) (λ text. HasNo 47 text)
    (λ _. no_slash_mapped last (no_slash_ipv4 (octets_of (drop 6 segments)) (octets_fit (drop 6 segments) (AllSegments-drop 6 segments fits))))
    (λ _. All-weaker IsHexOrColon (λ byte. byte ≢ 47) no_hex (hex_groups_text segments) (All-hex_groups_text segments fits))

no_slash_address : (address : Address) → HasNo 47 (address_text address)
no_slash_address address =
    let four = digits 4 address.bits in
    let six = segments_of (digits 16 address.bits) in
    cond_both (address.width == 32) (ipv4_text four) (ipv6_text six) (λ text. HasNo 47 text) (λ _. no_slash_ipv4 four (AreBytes-digits 4 address.bits))
    (λ _. no_slash_ipv6 six (segments_fit (digits 16 address.bits) (AreBytes-digits 16 address.bits)))

-- a small number is printed in digits
is_printed : (n : ℕ) → n ≤ 128 → IsNumber (decimal n) n
is_printed n small =
    let numeral = decimal_is_IsNumeral n (omega (arith, small)) in
    record {
      has_digit = numeral.0.0;
      has_room = length-decimal-le 10 n (omega arith) (omega (arith, small)) (omega (arith, small));
      digits = All-from_get_or (IsInRange 48 57) (decimal n) 0 (λ i inside. digit_at (decimal n) i numeral.0.1 inside);
      value = numeral.1;
    }

-- what is printed writes the network, and no other
module _ (network : Block) (is : IsNetwork network) (ip : IpAddr) (made : address_of ip ≡ network.address) (spelled : IsIpText (address_text network.address) ip) where
  pub printed : SayNetwork (network_text network) network
  printed = (
    address_text network.address,
    decimal network.length,
    (append_assoc (address_text network.address) (47 ∷ []) (decimal network.length), no_slash_address network.address),
    (ip, spelled, made),
    is_printed network.length (omega (arith, is.fits, width_most network is)),
    is,
  )

  pub read_again : (read : Result Block NetworkTextFault) → Parses SayNetwork (network_text network) read → read ≡ Ok network
  read_again read parsed = Parses_gives SayNetwork (network_text network) network read (one_network (network_text network)) printed parsed
