-- A number of sixteen bytes, read back from them.
use Rattle.std.specs.Prelude.{◌≡◌, ℕ, zero, suc, ◌+◌, ◌-◌, ◌*◌, ◌^◌, ◌<◌, List, [], ◌∷◌, length, get_or, refl}
use Rattle.std.specs.Int.{byte_worth, sum_through, w32, w128, from_be_bytes, to_be_bytes}
use Rattle.std.specs.Net.Addr.{octets_of, segments_of, ipv6_bits, IsIpv6OfBits, ipv4_bits, IsIpv4OfBits}
use Rattle.std.specs.declared.net.ipv4_addr.Ipv4Addr.{Ipv4Addr}
use Rattle.std.specs.declared.net.ipv6_addr.Ipv6Addr.{Ipv6Addr}
use Rattle.std.proofs.Common.{ap, ◌∙◌, arith}
use Rattle.std.proofs.lemmas.Nat.{from_be_bytes-to_be_bytes_4}
use Rattle.std.proofs.lemmas.Nat.{div-mul-add, mod-mul-add}
use Rattle.art_mapped.specs.DigitLaws.{number_of, AreBytes, AreBytes-digits, length-digits, number_of-digits}
use Rattle.art_mapped.specs.Numbers.{digits}

-- a sum, with its first term apart
sum_from_first : (f : ℕ → ℕ) (k : ℕ) → sum_through f (suc k) ≡ f 0 + sum_through (λ i. f (suc i)) k
sum_from_first f zero = refl
sum_from_first f (suc k) = rw (sum_from_first f k) (omega arith)

same_sum : (f g : ℕ → ℕ) → ((i : ℕ) → f i ≡ g i) → (k : ℕ) → sum_through f k ≡ sum_through g k
same_sum f g same zero = same 0
same_sum f g same (suc k) = rw (same_sum f g same k, same (suc k)) refl

-- what std's `from_be_bytes` reads is the number of the bytes
number_read : (k : ℕ) (ds : List ℕ) → length ds ≡ suc k → sum_through (λ i. byte_worth (k - i) (get_or ds i 0)) k ≡ number_of ds
number_read zero [] long = absurd (omega arith)
number_read zero (d ∷ []) long = omega arith
number_read zero (d ∷ e ∷ ds) long = absurd (omega arith)
number_read (suc k) [] long = absurd (omega arith)
number_read (suc k) (d ∷ ds) long =
    let short : length ds ≡ suc k = omega arith in
    let shifted = same_sum (λ i. byte_worth (suc k - suc i) (get_or ds i 0)) (λ i. byte_worth (k - i) (get_or ds i 0)) (λ i. ap (λ j. byte_worth j (get_or ds i 0)) (omega arith)) k in
    let rest = shifted ∙ number_read k ds short in
    let whole : suc k - 0 ≡ suc k = omega arith in
    rw (sum_from_first (λ i. byte_worth (suc k - i) (get_or (d ∷ ds) i 0)) k, rest, short, whole) refl

pub read_back : (n : ℕ) → n < 2 ^ 128 → from_be_bytes w128 (to_be_bytes w128 n) ≡ n
read_back n fits = number_read 15 (digits 16 n) (length-digits 16 n) ∙ number_of-digits 16 n (omega (arith, fits))

-- octets joined to segments come apart again
octets_apart : (n : ℕ) (octets : List ℕ) → length octets ≡ 2 * n → AreBytes octets → octets_of (segments_of octets) ≡ octets
octets_apart n [] long bytes = refl
octets_apart n (a ∷ []) long bytes = absurd (omega arith)
octets_apart zero (a ∷ b ∷ octets) long bytes = absurd (omega arith)
octets_apart (suc n) (a ∷ b ∷ octets) long bytes =
    let low : b < 256 = bytes 1 in
    let rest = octets_apart n octets (omega arith) (λ i. bytes (suc (suc i))) in
    rw (div-mul-add a 256 b low, mod-mul-add a 256 b low, rest) refl

-- an address that is made of a number has that number
pub number_of_ipv4 : (ip : Ipv4Addr) (n : ℕ) → n < 2 ^ 32 → IsIpv4OfBits ip n → ipv4_bits ip ≡ n
unfolding ipv4_bits IsIpv4OfBits
number_of_ipv4 ip n fits is = ap (from_be_bytes w32) is ∙ from_be_bytes-to_be_bytes_4 n fits

pub number_of_ipv6 : (ip : Ipv6Addr) (n : ℕ) → n < 2 ^ 128 → IsIpv6OfBits ip n → ipv6_bits ip ≡ n
unfolding ipv6_bits IsIpv6OfBits
number_of_ipv6 ip n fits is =
    ap (λ segments. from_be_bytes w128 (octets_of segments)) is
    ∙ ap (from_be_bytes w128) (octets_apart 8 (digits 16 n) (length-digits 16 n) (AreBytes-digits 16 n)) ∙ read_back n fits
