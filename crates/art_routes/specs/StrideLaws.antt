-- Laws of the bytes of strides: they sort as the numbers do, none begins another, and fewer of them are the first of more.
-- No public clause cites this.
use Rattle.std.proofs.Common.{◌≡◌, ◌∙◌, ◌⊎◌, inl, inr, ℕ, zero, suc, ◌+◌, ◌-◌, ◌*◌, ◌/◌, ◌%◌, ◌^◌, ◌<◌, ◌≤◌, List, [], ◌∷◌, ◌++◌, length, take, All, refl, sym, ap, arith, mul_assoc}
use Rattle.std.specs.Ordering.{nat_cmp}
use Rattle.std.specs.Cmp.Lexicographic.{slice_cmp}
use Rattle.std.specs.declared.cmp.Ordering.TheVariants.{Less, Equal}
use Rattle.std.proofs.lemmas.Cmp.{by_ranked, ranked}
use Rattle.std.proofs.lemmas.Bool.{cases_lt}
use Rattle.std.proofs.lemmas.List.Elements.{All-cons, All-nil}
use Rattle.std.proofs.lemmas.Nat.{field_of, mod-pow-add, mod_below, mod_low, mul-mod_first, pow-add, pow_pos, shl-shr, shr-shr}
use Rattle.art_routes.specs.Strides.{bits_behind, kept, stride, stride_at, strides, symbol}

-- a lesser stride has a lesser byte, whichever bits are kept
pub byte_less : (a b j k : ℕ) → j ≤ 7 → k ≤ 7 → a < b → b < 128 → b % 2 ^ (7 - k) ≡ 0 → symbol a j < symbol b k
byte_less a b j zero few short less fits none = omega arith
byte_less a b j (suc zero) few short less fits none = omega arith
byte_less a b j (suc (suc zero)) few short less fits none = omega arith
byte_less a b j (suc (suc (suc zero))) few short less fits none = omega arith
byte_less a b j (suc (suc (suc (suc zero)))) few short less fits none = omega arith
byte_less a b j (suc (suc (suc (suc (suc zero))))) few short less fits none = omega arith
byte_less a b j (suc (suc (suc (suc (suc (suc zero)))))) few short less fits none = omega arith
byte_less a b j (suc (suc (suc (suc (suc (suc (suc k))))))) few short less fits none = omega arith

pub byte_fits : (a k : ℕ) → k ≤ 7 → a < 128 → symbol a k < 256
byte_fits a k few fits = omega arith

-- the bits that are kept
pub kept_fits : (k a : ℕ) → a < 128 → kept k a < 128
kept_fits zero a fits = omega arith
kept_fits (suc zero) a fits = omega arith
kept_fits (suc (suc zero)) a fits = omega arith
kept_fits (suc (suc (suc zero))) a fits = omega arith
kept_fits (suc (suc (suc (suc zero)))) a fits = omega arith
kept_fits (suc (suc (suc (suc (suc zero))))) a fits = omega arith
kept_fits (suc (suc (suc (suc (suc (suc zero)))))) a fits = omega arith
kept_fits (suc (suc (suc (suc (suc (suc (suc k))))))) a fits = omega arith

pub kept_alone : (k a : ℕ) → kept k a % 2 ^ (7 - k) ≡ 0
kept_alone zero a = omega arith
kept_alone (suc zero) a = omega arith
kept_alone (suc (suc zero)) a = omega arith
kept_alone (suc (suc (suc zero))) a = omega arith
kept_alone (suc (suc (suc (suc zero)))) a = omega arith
kept_alone (suc (suc (suc (suc (suc zero))))) a = omega arith
kept_alone (suc (suc (suc (suc (suc (suc zero)))))) a = omega arith
kept_alone (suc (suc (suc (suc (suc (suc (suc k))))))) a =
    let none : 7 - suc (suc (suc (suc (suc (suc (suc k)))))) ≡ 0 = omega arith in
    ap (λ d. a / 2 ^ d * 2 ^ d % 2 ^ d) none ∙ omega arith

-- a number of which no bit behind the first ones is set, fewer than seven, is made of those
pub kept_whole : (r n : ℕ) → r < 7 → n < 2 ^ 128 → n % 2 ^ (128 - r) ≡ 0 → n ≡ kept r (stride n) * 2 ^ 121
kept_whole zero n few fits none = omega arith
kept_whole (suc zero) n few fits none = omega arith
kept_whole (suc (suc zero)) n few fits none = omega arith
kept_whole (suc (suc (suc zero))) n few fits none = omega arith
kept_whole (suc (suc (suc (suc zero)))) n few fits none = omega arith
kept_whole (suc (suc (suc (suc (suc zero))))) n few fits none = omega arith
kept_whole (suc (suc (suc (suc (suc (suc zero)))))) n few fits none = omega arith
kept_whole (suc (suc (suc (suc (suc (suc (suc r))))))) n few fits none = absurd (omega arith)

-- no bit of the number is set behind the first strides and some more bits
abbrev pub AreAlone : ℕ → ℕ → ℕ → Type 0
AreAlone zero rest number = number ≡ kept rest (stride number) * 2 ^ 121
AreAlone (suc count) rest number = AreAlone count rest (bits_behind number)

stride_fits : (n : ℕ) → n < 2 ^ 128 → stride n < 128
stride_fits n fits = omega arith

behind_fits : (n : ℕ) → bits_behind n < 2 ^ 128
behind_fits n = omega arith

pub nat_cmp-less : (x y : ℕ) → x < y → nat_cmp x y ≡ Less
nat_cmp-less x y less = by_ranked (x < y) (x ≡ y) (y < x) (nat_cmp x y) (ranked x y (nat_cmp x y) refl) (λ is _. is) (λ is same. absurd (omega (arith, same, less))) (λ is more. absurd (omega (arith, more, less)))

pub equal_is : (x y : ℕ) → x ≡ y → nat_cmp x y ≡ Equal
equal_is x y same = by_ranked (x < y) (x ≡ y) (y < x) (nat_cmp x y) (ranked x y (nat_cmp x y) refl) (λ is less. absurd (omega (arith, same, less))) (λ is _. is) (λ is more. absurd (omega (arith, more, same)))

-- one number comes before another, or is the same with fewer bits
abbrev pub Before : (n l m k : ℕ) → Type 0
Before n l m k = (n < m) ⊎ ((n ≡ m) × (l < k))

pub head_less : (x y : ℕ) (xs ys : List ℕ) → x < y → slice_cmp nat_cmp (x ∷ xs) (y ∷ ys) ≡ Less
head_less x y xs ys less = rw (nat_cmp-less x y less) refl

pub head_same : (x y : ℕ) (xs ys : List ℕ) → x ≡ y → slice_cmp nat_cmp xs ys ≡ Less → slice_cmp nat_cmp (x ∷ xs) (y ∷ ys) ≡ Less
head_same x y xs ys same rest = rw (equal_is x y same) rest

-- the byte of a stride before one of which the first bits are kept
before_kept : (a b j k : ℕ) → j ≤ 7 → k ≤ 7 → b < 128 → a < kept k b → symbol a j < symbol (kept k b) k
before_kept a b j k few short fits less = byte_less a (kept k b) j k few short less (kept_fits k b fits) (kept_alone k b)

pub strides_order : (q r n p s m : ℕ) → r < 7 → s < 7 → n < 2 ^ 128 → m < 2 ^ 128 → AreAlone q r n → AreAlone p s m
    → Before n (7 * q + r) m (7 * p + s) → slice_cmp nat_cmp (strides q r n) (strides p s m) ≡ Less
strides_order zero r n zero s m few short fits fits_too alone alone_too (inl less) =
    head_less (symbol (kept r (stride n)) r) (symbol (kept s (stride m)) s) [] [] (before_kept (kept r (stride n)) (stride m) r s (omega arith) (omega arith) (omega arith) (omega (arith, alone, alone_too, less)))
strides_order zero r n zero s m few short fits fits_too alone alone_too (inr (same, less)) =
    let equal : kept r (stride n) ≡ kept s (stride m) = omega (arith, alone, alone_too, same) in
    head_less (symbol (kept r (stride n)) r) (symbol (kept s (stride m)) s) [] [] (omega (arith, equal, less))
strides_order zero r n (suc p) s m few short fits fits_too alone alone_too before =
    let most : n ≤ m = elim before [ inl less ↦ omega (arith, less) | inr same ↦ omega (arith, same.0) ] in
    elim (cases_lt (kept r (stride n)) (stride m)) [
      | inl less ↦ head_less (symbol (kept r (stride n)) r) (symbol (stride m) 7) [] (strides p s (bits_behind m)) (byte_less (kept r (stride n)) (stride m) r 7 (omega arith) (omega arith) less (omega arith) (omega arith))
      | inr not_less ↦
          let equal : kept r (stride n) ≡ stride m = omega (arith, not_less, alone, most) in
          head_less (symbol (kept r (stride n)) r) (symbol (stride m) 7) [] (strides p s (bits_behind m)) (omega (arith, equal, few))
    ]
strides_order (suc q) r n zero s m few short fits fits_too alone alone_too (inl less) =
    head_less (symbol (stride n) 7) (symbol (kept s (stride m)) s) (strides q r (bits_behind n)) [] (before_kept (stride n) (stride m) 7 s (omega arith) (omega arith) (omega arith) (omega (arith, alone_too, less)))
strides_order (suc q) r n zero s m few short fits fits_too alone alone_too (inr (same, fewer)) = absurd (omega (arith, fewer, short))
strides_order (suc q) r n (suc p) s m few short fits fits_too alone alone_too before =
    elim (cases_lt (stride n) (stride m)) [
      | inl less ↦ head_less (symbol (stride n) 7) (symbol (stride m) 7) (strides q r (bits_behind n)) (strides p s (bits_behind m)) (byte_less (stride n) (stride m) 7 7 (omega arith) (omega arith) less (omega arith) (omega arith))
      | inr not_less ↦
          let most : n ≤ m = elim before [ inl less ↦ omega (arith, less) | inr same ↦ omega (arith, same.0) ] in
          let equal : stride n ≡ stride m = omega (arith, not_less, most) in
          head_same (symbol (stride n) 7) (symbol (stride m) 7) (strides q r (bits_behind n)) (strides p s (bits_behind m)) (ap (λ a. symbol a 7) equal)
          (strides_order q r (bits_behind n) p s (bits_behind m) few short (behind_fits n) (behind_fits m) alone alone_too (later before equal))
    ]
  where
    later : Before n (7 * suc q + r) m (7 * suc p + s) → stride n ≡ stride m → Before (bits_behind n) (7 * q + r) (bits_behind m) (7 * p + s)
    later (inl less) equal = inl (omega (arith, less, equal))
    later (inr (same, fewer)) equal = inr (ap bits_behind same, omega (arith, fewer))

-- ---- what the strides of a number begin with
same_stride : (q r n p s m : ℕ) → n < 2 ^ 128 → m < 2 ^ 128 → symbol (stride n) 7 ≡ symbol (stride m) 7 → stride n ≡ stride m
same_stride q r n p s m fits fits_too same = elim (cases_lt (stride n) (stride m)) [
  | inl less ↦ let under = byte_less (stride n) (stride m) 7 7 (omega arith) (omega arith) less (omega arith) (omega arith) in absurd (omega (arith, under, same))
  | inr not_less ↦ elim (cases_lt (stride m) (stride n)) [
    | inl more ↦ let over = byte_less (stride m) (stride n) 7 7 (omega arith) (omega arith) more (omega arith) (omega arith) in absurd (omega (arith, over, same))
    | inr not_more ↦ omega (arith, not_less, not_more)
  ]
]

-- a byte of fewer than seven bits is none of seven
pub not_whole : (r a b : ℕ) → r < 7 → a < 128 → b < 128 → symbol (kept r a) r ≡ symbol b 7 → ⊥
not_whole r a b few fits fits_too same = elim (cases_lt (kept r a) b) [
  | inl less ↦ let under = byte_less (kept r a) b r 7 (omega arith) (omega arith) less fits_too (omega arith) in absurd (omega (arith, under, same))
  | inr not_less ↦ elim (cases_lt b (kept r a)) [
    | inl more ↦ let over = before_kept b a 7 r (omega arith) (omega arith) fits more in absurd (omega (arith, over, same))
    | inr not_more ↦ let equal : kept r a ≡ b = omega (arith, not_less, not_more) in absurd (omega (arith, equal, same, few))
  ]
]

-- the strides of one number begin those of another only where they are all of them
pub no_prefix : (q r n p s m : ℕ) → r < 7 → s < 7 → n < 2 ^ 128 → m < 2 ^ 128 → (rest : List ℕ) → strides p s m ≡ strides q r n ++ rest → rest ≡ []
no_prefix zero r n zero s m few short fits fits_too rest is = let none : [] ≡ rest = cc in sym none
no_prefix zero r n (suc p) s m few short fits fits_too rest is =
    let same : symbol (stride m) 7 ≡ symbol (kept r (stride n)) r = cc in
    absurd (not_whole r (stride n) (stride m) few (omega arith) (omega arith) (sym same))
no_prefix (suc q) r n zero s m few short fits fits_too rest is =
    let same : symbol (kept s (stride m)) s ≡ symbol (stride n) 7 = cc in
    absurd (not_whole s (stride m) (stride n) short (omega arith) (omega arith) same)
no_prefix (suc q) r n (suc p) s m few short fits fits_too rest is =
    let more : strides p s (bits_behind m) ≡ strides q r (bits_behind n) ++ rest = cc in
    no_prefix q r (bits_behind n) p s (bits_behind m) few short (behind_fits n) (behind_fits m) rest more

pub strides_long : (q r n : ℕ) → length (strides q r n) ≡ suc q
strides_long zero r n = refl
strides_long (suc q) r n = ap suc (strides_long q r (bits_behind n))

-- fewer strides of a number are the first of more of them, and one that is cut
pub fewer_strides : (i q j r n : ℕ) → i ≤ q → strides i j n ≡ take i (strides q r n) ++ symbol (kept j (stride_at i n)) j ∷ []
fewer_strides zero q j r n less = refl
fewer_strides (suc i) zero j r n less = absurd (omega arith)
fewer_strides (suc i) (suc q) j r n less = ap (λ rest. symbol (stride n) 7 ∷ rest) (fewer_strides i q j r (bits_behind n) (omega arith))

-- the stride at a place
pub behind_is : (n : ℕ) → bits_behind n ≡ n * 2 ^ 7 % 2 ^ 128
behind_is n = omega arith

pub stride_shifted : (i n : ℕ) → n < 2 ^ 128 → stride_at i n ≡ n * 2 ^ (7 * i) % 2 ^ 128 / 2 ^ 121
stride_shifted zero n fits = let whole : n * 2 ^ 0 % 2 ^ 128 ≡ n = omega arith in ap (λ m. m / 2 ^ 121) (sym whole)
stride_shifted (suc i) n fits =
    let one : n * 2 ^ 7 % 2 ^ 128 * 2 ^ (7 * i) % 2 ^ 128 ≡ n * 2 ^ 7 * 2 ^ (7 * i) % 2 ^ 128 = mul-mod_first (n * 2 ^ 7) (2 ^ (7 * i)) (2 ^ 128) in
    let sum : 7 * suc i ≡ 7 + 7 * i = omega arith in
    let power : 2 ^ (7 * suc i) ≡ 2 ^ 7 * 2 ^ (7 * i) = ap (λ e. 2 ^ e) sum ∙ pow-add 2 7 (7 * i) in
    stride_shifted i (bits_behind n) (behind_fits n)
    ∙ ap (λ m. m * 2 ^ (7 * i) % 2 ^ 128 / 2 ^ 121) (behind_is n)
    ∙ ap (λ m. m / 2 ^ 121) (one ∙ ap (λ m. m % 2 ^ 128) (mul_assoc n (2 ^ 7) (2 ^ (7 * i)) ∙ ap (λ m. n * m) (sym power)))

-- no bit is set behind the first ones
tail_clear : (k n : ℕ) → k ≤ 121 → n % 2 ^ k ≡ 0 → bits_behind n % 2 ^ (k + 7) ≡ 0
tail_clear k n few none =
    let x = n % 2 ^ 121 in
    let sum : 121 - k + k ≡ 121 = omega (arith, few) in
    let low : x % 2 ^ k ≡ n % 2 ^ k =
    ap (λ e. n % 2 ^ e % 2 ^ k) (sym sum) ∙ ap (λ m. m % 2 ^ k) (mod-pow-add n (121 - k) k)
    ∙ mod_low (n / 2 ^ k % 2 ^ (121 - k)) k (n % 2 ^ k) (mod_below n (2 ^ k) (pow_pos k)) in
    let moved : x * 2 ^ 7 / 2 ^ 7 ≡ x = shl-shr x 7 in
    let clear : x * 2 ^ 7 % 2 ^ 7 ≡ 0 = omega arith in
    let parts : x * 2 ^ 7 % 2 ^ (k + 7) ≡ x * 2 ^ 7 / 2 ^ 7 % 2 ^ k * 2 ^ 7 + x * 2 ^ 7 % 2 ^ 7 = mod-pow-add (x * 2 ^ 7) k 7 in
    let first : x * 2 ^ 7 / 2 ^ 7 % 2 ^ k ≡ 0 = ap (λ m. m % 2 ^ k) moved ∙ low ∙ none in
    omega (arith, parts, first, clear)

pub are_alone : (q r n k : ℕ) → r < 7 → n < 2 ^ 128 → k + (7 * q + r) ≡ 128 → n % 2 ^ k ≡ 0 → AreAlone q r n
are_alone zero r n k few fits sum none =
    let is : k ≡ 128 - r = omega (arith, sum) in
    kept_whole r n few fits (ap (λ e. n % 2 ^ e) (sym is) ∙ none)
are_alone (suc q) r n k few fits sum none = are_alone q r (bits_behind n) (k + 7) few (behind_fits n) (omega (arith, sum)) (tail_clear k n (omega (arith, sum)) none)

-- numbers with the same first bits have the same strides of them
pub same_strides : (q r n m k : ℕ) → r < 7 → k + (7 * q + r) ≡ 128 → n / 2 ^ k ≡ m / 2 ^ k → strides q r n ≡ strides q r m
same_strides zero r n m k few sum same =
    let is : 121 + (7 - r) ≡ k = omega (arith, sum, few) in
    let first = λ (x : ℕ). shr-shr x 121 (7 - r) ∙ ap (λ e. x / 2 ^ e) is in
    ap (λ a. symbol (a * 2 ^ (7 - r)) r ∷ []) (first n ∙ same ∙ sym (first m))
same_strides (suc q) r n m k few sum same =
    let high : k + (121 - k) ≡ 121 = omega (arith, sum) in
    let first = λ (x : ℕ). sym (shr-shr x k (121 - k) ∙ ap (λ e. x / 2 ^ e) high) in
    let top : stride n ≡ stride m = first n ∙ ap (λ x. x / 2 ^ (121 - k)) same ∙ sym (first m) in
    let turned : 121 - k + k ≡ 121 = omega (arith, sum) in
    let sevens : 7 + k ≡ k + 7 = omega arith in
    let low = λ (x : ℕ).
    ap (λ e. x % 2 ^ 121 * 2 ^ 7 / 2 ^ e) (sym sevens) ∙ sym (shr-shr (x % 2 ^ 121 * 2 ^ 7) 7 k) ∙ ap (λ y. y / 2 ^ k) (shl-shr (x % 2 ^ 121) 7)
    ∙ ap (λ e. x % 2 ^ e / 2 ^ k) (sym turned) ∙ field_of x (121 - k) k in
    let rest = same_strides q r (bits_behind n) (bits_behind m) (k + 7) few (omega (arith, sum)) (low n ∙ ap (λ y. y % 2 ^ (121 - k)) same ∙ sym (low m)) in
    λ i. symbol (top i) 7 ∷ rest i

pub strides_bytes : (q r n : ℕ) → r < 7 → n < 2 ^ 128 → All (λ byte. byte < 256) (strides q r n)
strides_bytes zero r n few fits =
    All-cons (λ byte. byte < 256) (symbol (kept r (stride n)) r) [] (byte_fits (kept r (stride n)) r (omega arith) (kept_fits r (stride n) (omega arith))) (All-nil (λ byte. byte < 256))
strides_bytes (suc q) r n few fits =
    All-cons (λ byte. byte < 256) (symbol (stride n) 7) (strides q r (bits_behind n)) (byte_fits (stride n) 7 (omega arith) (omega arith)) (strides_bytes q r (bits_behind n) few (behind_fits n))
