-- Digits in base 256: their value and their order. No public clause cites this.
use Rattle.std.specs.Prelude.{◌≡◌, ℕ, zero, suc, ◌+◌, ◌*◌, ◌%◌, ◌^◌, ◌<◌, List, [], ◌∷◌, length, get_or, refl}
use Rattle.std.specs.Int.{byte_at}
use Rattle.std.specs.Ordering.{nat_cmp, ordering_then}
use Rattle.std.specs.declared.cmp.Ordering.{Ordering}
use Rattle.std.specs.declared.cmp.Ordering.TheVariants.{Less, Equal, Greater}
use Rattle.std.specs.Cmp.{nat_cmp_is}
use Rattle.std.proofs.Common.{sym, ap, ◌∙◌, arith, pow-suc, mul_comm}
use Rattle.std.proofs.Math.Nat.{pow-le-pow_right, mod-eq_of_lt}
use Rattle.std.proofs.Math.Arith.{mod-mul}
use Rattle.std.proofs.lemmas.Cmp.{by_ranked, ranked}
use Rattle.std.proofs.lemmas.Nat.{mul-add-lt, row_fits}
use Rattle.art_bytes.specs.Text.{text_order}
use Rattle.art_mapped.specs.Numbers.{digits}

-- the number with these digits
abbrev pub number_of : List ℕ → ℕ
number_of [] = 0
number_of (d ∷ ds) = d * 256 ^ length ds + number_of ds

-- every item is a byte
abbrev pub AreBytes : List ℕ → Type 0
AreBytes ds = (i : ℕ) → get_or ds i 0 < 256

some_power : (k : ℕ) → 0 < 256 ^ k
some_power k = pow-le-pow_right {n = 256} (omega arith) {i = 0} {j = k} (omega arith)

power_more : (k : ℕ) → 256 ^ suc k ≡ 256 * 256 ^ k
power_more k = pow-suc 256 k ∙ mul_comm (256 ^ k) 256

pub length-digits : (width n : ℕ) → length (digits width n) ≡ width
length-digits zero n = refl
length-digits (suc k) n = ap suc (length-digits k n)

byte_at_below : (k n : ℕ) → byte_at k n < 256
byte_at_below zero n = omega arith
byte_at_below (suc k) n = omega arith

pub AreBytes-digits : (width n : ℕ) → AreBytes (digits width n)
AreBytes-digits zero n i = omega arith
AreBytes-digits (suc k) n zero = byte_at_below k n
AreBytes-digits (suc k) n (suc i) = AreBytes-digits k n i

pub number_of_below : (ds : List ℕ) → AreBytes ds → number_of ds < 256 ^ length ds
number_of_below [] bytes = omega arith
number_of_below (d ∷ ds) bytes =
    let rest = number_of_below ds (λ i. bytes (suc i)) in
    let first : d < 256 = bytes 0 in
    rw pow-suc (mul-add-lt d (256 ^ length ds) (number_of ds) 256 first rest)

-- the digit before the low digits, and the low digits
digit_on : (k n : ℕ) → byte_at k n * 256 ^ k + n % 256 ^ k ≡ n % 256 ^ suc k
digit_on zero n = omega arith
digit_on (suc k) n =
    let unit = 256 ^ suc k in
    rw (power_more (suc k), mod-mul n {m = 256} {c = unit} (omega arith) (some_power (suc k))) (omega arith)

number_of-low : (width n : ℕ) → number_of (digits width n) ≡ n % 256 ^ width
number_of-low zero n = omega arith
number_of-low (suc k) n = rw (length-digits k n, number_of-low k n) (digit_on k n)

-- digits at full width determine the number
pub number_of-digits : (width n : ℕ) → n < 256 ^ width → number_of (digits width n) ≡ n
number_of-digits width n fits = number_of-low width n ∙ mod-eq_of_lt fits

-- three comparisons in turn
pub then_assoc : (o p q : Ordering) → ordering_then (ordering_then o p) q ≡ ordering_then o (ordering_then p q)
then_assoc Less p q = refl
then_assoc Equal p q = refl
then_assoc Greater p q = refl

-- a number made of two digits in a base, the greater first, has the order of those digits
pub order_of_two : (unit a b r s : ℕ) → r < unit → s < unit → nat_cmp (a * unit + r) (b * unit + s) ≡ ordering_then (nat_cmp a b) (nat_cmp r s)
order_of_two unit a b r s small small' =
    let x = a * unit + r in
    let y = b * unit + s in
    sym (nat_cmp_is x y (ordering_then (nat_cmp a b) (nat_cmp r s)) (by_ranked (a < b) (a ≡ b) (b < a) (nat_cmp a b) (ranked a b (nat_cmp a b) refl)
    (λ is less. rw is (omega (arith, row_fits a unit b unit less (omega arith))))
    (λ is same. rw is (by_ranked (r < s) (r ≡ s) (s < r) (nat_cmp r s) (ranked r s (nat_cmp r s) refl)
    (λ is' less. rw (is', same) (omega arith))
    (λ is' same'. rw (is', same, same') refl)
    (λ is' greater. rw (is', same) (omega arith))))
    (λ is greater. rw is (omega (arith, row_fits b unit a unit greater (omega arith))))))

-- byte lists of one length have the order of their numbers
pub text_order-number_of : (ds es : List ℕ) → length ds ≡ length es → AreBytes ds → AreBytes es → text_order ds es ≡ nat_cmp (number_of ds) (number_of es)
text_order-number_of [] [] long d_bytes e_bytes = refl
text_order-number_of [] (e ∷ es) long d_bytes e_bytes = absurd (omega arith)
text_order-number_of (d ∷ ds) [] long d_bytes e_bytes = absurd (omega arith)
text_order-number_of (d ∷ ds) (e ∷ es) long d_bytes e_bytes =
    let same : length ds ≡ length es = omega arith in
    let rest = text_order-number_of ds es same (λ i. d_bytes (suc i)) (λ i. e_bytes (suc i)) in
    let d_small = number_of_below ds (λ i. d_bytes (suc i)) in
    let e_small : number_of es < 256 ^ length ds = rw same (number_of_below es (λ i. e_bytes (suc i))) in
    rw rest (rw (← same) (sym (order_of_two (256 ^ length ds) d e (number_of ds) (number_of es) d_small e_small)))

-- digits at one width have the order of their numbers
pub text_order-digits : (width m n : ℕ) → m < 256 ^ width → n < 256 ^ width → text_order (digits width m) (digits width n) ≡ nat_cmp m n
text_order-digits width m n m_fits n_fits =
    let long = length-digits width m ∙ sym (length-digits width n) in
    rw (text_order-number_of (digits width m) (digits width n) long (AreBytes-digits width m) (AreBytes-digits width n), number_of-digits width m m_fits, number_of-digits width n n_fits) refl
