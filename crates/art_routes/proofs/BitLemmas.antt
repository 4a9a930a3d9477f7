-- Numbers by their first bits.
use Rattle.std.proofs.Common.{◌≡◌, ◌∙◌, inl, inr, ℕ, ◌+◌, ◌-◌, ◌*◌, ◌/◌, ◌^◌, ◌<◌, ◌≤◌, ◌==◌, ◌%◌, sym, ap, arith, mul_comm}
use Rattle.std.proofs.Math.Nat.{mul-le-mul_right, div-mul-le_self}
use Rattle.std.proofs.lemmas.Bool.{cases_eq, eq-eqb, ne_eqb}
use Rattle.std.proofs.lemmas.Nat.{div_below, mul-add-lt, pow-add, pow_pos, shl-shr, shr-shr, shr_split}

-- the number of fewer first bits is no greater
pub fewer_first : (n j k : ℕ) → k ≤ j → n / 2 ^ j * 2 ^ j ≤ n / 2 ^ k * 2 ^ k
fewer_first n j k less =
    let d = j - k in
    let sum : j ≡ k + d = omega (arith, less) in
    let turned : j ≡ d + k = omega (arith, less) in
    let split : n / 2 ^ j ≡ n / 2 ^ k / 2 ^ d = ap (λ e. n / 2 ^ e) sum ∙ sym (shr-shr n k d) in
    let power : 2 ^ j ≡ 2 ^ d * 2 ^ k = ap (λ e. 2 ^ e) turned ∙ pow-add 2 d k in
    let whole : n / 2 ^ j * 2 ^ j ≡ n / 2 ^ k / 2 ^ d * (2 ^ d * 2 ^ k) = λ i. split i * power i in
    omega (arith, whole, mul-le-mul_right (2 ^ k) (div-mul-le_self (n / 2 ^ k) (2 ^ d)))

-- a number with no bit behind the first ones is made of those
pub none_behind : (n k : ℕ) → n % 2 ^ k ≡ 0 → n / 2 ^ k * 2 ^ k ≡ n
none_behind n k none = let whole = shr_split n k in omega (arith, whole, none)

-- a number with these first bits, the others cleared, is this one, which has none behind, as its first bits are
pub same_cleared : (x n k : ℕ) → n % 2 ^ k ≡ 0 → (x / 2 ^ k * 2 ^ k == n) ≡ (x / 2 ^ k == n / 2 ^ k)
same_cleared x n k none = elim (cases_eq (x / 2 ^ k) (n / 2 ^ k)) [
  | inl same ↦
      let cleared : x / 2 ^ k * 2 ^ k ≡ n = ap (λ q. q * 2 ^ k) same ∙ none_behind n k none in
      eq-eqb (x / 2 ^ k * 2 ^ k) n cleared ∙ sym (eq-eqb (x / 2 ^ k) (n / 2 ^ k) same)
  | inr differ ↦
      ne_eqb (x / 2 ^ k * 2 ^ k) n (λ same. differ (sym (shl-shr (x / 2 ^ k) k) ∙ ap (λ y. y / 2 ^ k) same))
      ∙ sym (ne_eqb (x / 2 ^ k) (n / 2 ^ k) differ)
]

-- the last of the numbers with the same first bits fits as they do
pub last_fits : (n k w : ℕ) → k ≤ w → n % 2 ^ k ≡ 0 → n < 2 ^ w → n + (2 ^ k - 1) < 2 ^ w
last_fits n k w less none fits =
    let begins : n / 2 ^ k * 2 ^ k ≡ n = none_behind n k none in
    let sum : w ≡ k + (w - k) = omega (arith, less) in
    let power : 2 ^ w ≡ 2 ^ k * 2 ^ (w - k) = ap (λ e. 2 ^ e) sum ∙ pow-add 2 k (w - k) in
    let turned : 2 ^ k * 2 ^ (w - k) ≡ 2 ^ (w - k) * 2 ^ k = mul_comm (2 ^ k) (2 ^ (w - k)) in
    let first : n / 2 ^ k < 2 ^ (w - k) = div_below n (2 ^ k) (2 ^ (w - k)) (pow_pos k) (omega (arith, fits, power, turned)) in
    let some : 0 < 2 ^ k = pow_pos k in
    let under : n / 2 ^ k * 2 ^ k + (2 ^ k - 1) < 2 ^ k * 2 ^ (w - k) = mul-add-lt (n / 2 ^ k) (2 ^ k) (2 ^ k - 1) (2 ^ (w - k)) first (omega (arith, some)) in
    omega (arith, under, begins, power)
