-- Reading bytes back: to the number with these digits, and to the address with these octets.
use Rattle.std.specs.Prelude.{◌≡◌, ℕ, zero, suc, ◌+◌, ◌-◌, ◌*◌, ◌^◌, ◌<◌, List, [], ◌∷◌, length, get_or, All, refl}
use Rattle.std.specs.Int.{byte_worth, sum_through}
use Rattle.std.specs.Cmp.{nat_cmp_is}
use Rattle.std.specs.Net.Addr.{octets_of, segments_of}
use Rattle.std.specs.declared.cmp.Ordering.TheVariants.{Equal}
use Rattle.std.proofs.Common.{sym, ap, ◌∙◌, arith}
use Rattle.std.proofs.lemmas.Map.Lookups.{exact_bytes}
use Rattle.std.proofs.lemmas.List.Elements.{All-head, All-tail}
use Rattle.std.proofs.lemmas.Nat.{div-mul-add, mod-mul-add}
use Rattle.art_bytes.specs.Text.{IsByte}
use Rattle.art_mapped.specs.DigitLaws.{number_of, AreBytes, length-digits, AreBytes-digits, number_of_below, number_of-digits, text_order-number_of}
use Rattle.art_mapped.specs.Numbers.{digits}

-- texts of one number at one width are equal
same_from_number : (ds es : List ℕ) → length ds ≡ length es → AreBytes ds → AreBytes es → number_of ds ≡ number_of es → ds ≡ es
same_from_number ds es long d_bytes e_bytes same =
    exact_bytes ds es (text_order-number_of ds es long d_bytes e_bytes ∙ sym (nat_cmp_is (number_of ds) (number_of es) Equal same))

-- a text is the digits of its number
pub digits-number_of : (width : ℕ) (ds : List ℕ) → length ds ≡ width → AreBytes ds → digits width (number_of ds) ≡ ds
digits-number_of width ds long bytes =
    let fits : number_of ds < 256 ^ width = rw (← long) (number_of_below ds bytes) in
    same_from_number (digits width (number_of ds)) ds (length-digits width (number_of ds) ∙ sym long) (AreBytes-digits width (number_of ds)) bytes (number_of-digits width (number_of ds) fits)

-- a sum, with its first term apart
sum_from_first : (f : ℕ → ℕ) (k : ℕ) → sum_through f (suc k) ≡ f 0 + sum_through (λ i. f (suc i)) k
sum_from_first f zero = refl
sum_from_first f (suc k) = rw (sum_from_first f k) (omega arith)

same_sum : (f g : ℕ → ℕ) → ((i : ℕ) → f i ≡ g i) → (k : ℕ) → sum_through f k ≡ sum_through g k
same_sum f g same zero = same 0
same_sum f g same (suc k) = rw (same_sum f g same k, same (suc k)) refl

-- the sum that std's `from_be_bytes` computes is the number of the text
number_of-sum : (k : ℕ) (ds : List ℕ) → length ds ≡ suc k → sum_through (λ i. byte_worth (k - i) (get_or ds i 0)) k ≡ number_of ds
number_of-sum zero [] long = absurd (omega arith)
number_of-sum zero (d ∷ []) long = omega arith
number_of-sum zero (d ∷ e ∷ ds) long = absurd (omega arith)
number_of-sum (suc k) [] long = absurd (omega arith)
number_of-sum (suc k) (d ∷ ds) long =
    let short : length ds ≡ suc k = omega arith in
    let shifted = same_sum (λ i. byte_worth (suc k - suc i) (get_or ds i 0)) (λ i. byte_worth (k - i) (get_or ds i 0)) (λ i. ap (λ j. byte_worth j (get_or ds i 0)) (omega arith)) k in
    let rest = shifted ∙ number_of-sum k ds short in
    let whole : suc k - 0 ≡ suc k = omega arith in
    rw (sum_from_first (λ i. byte_worth (suc k - i) (get_or (d ∷ ds) i 0)) k, rest, short, whole) refl

-- the number that std reads from `width` bytes has these bytes as its digits
pub digits-read : (k : ℕ) (ds : List ℕ) (n : ℕ) → length ds ≡ suc k → AreBytes ds → n ≡ sum_through (λ i. byte_worth (k - i) (get_or ds i 0)) k → digits (suc k) n ≡ ds
digits-read k ds n long bytes read = rw (read ∙ number_of-sum k ds long) (digits-number_of (suc k) ds long bytes)

-- octets joined to segments come apart again
pub octets_of-segments_of : (n : ℕ) (octets : List ℕ) → length octets ≡ 2 * n → All IsByte octets → octets_of (segments_of octets) ≡ octets
octets_of-segments_of n [] long bytes = refl
octets_of-segments_of n (a ∷ []) long bytes = absurd (omega arith)
octets_of-segments_of zero (a ∷ b ∷ octets) long bytes = absurd (omega arith)
octets_of-segments_of (suc n) (a ∷ b ∷ octets) long bytes =
    let low = All-head IsByte b octets (All-tail IsByte a (b ∷ octets) bytes) in
    let rest = octets_of-segments_of n octets (omega arith) (All-tail IsByte b octets (All-tail IsByte a (b ∷ octets) bytes)) in
    rw (div-mul-add a 256 b low, mod-mul-add a 256 b low, rest) refl
