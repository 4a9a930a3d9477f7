-- Flipping the top bit of a number: a two's complement plus half of its range, and back.
use Rattle.std.proofs.Common.{◌≡◌, ℕ, ◌+◌, ◌-◌, ◌*◌, ◌^◌, ◌<◌, ◌≤◌, ℤ, pos, negsuc, SFits, List, arith, suc, refl, sym, ap, ◌∙◌, inl, inr}
use Rattle.std.proofs.lemmas.Bool.{cases_lt, le-ltb}
use Rattle.std.specs.Prelude.{◌+ℤ◌, ◌≤ℤ◌, ◌<ℤ◌, neg_ℤ, unsigned_abs, bit_xor}
use Rattle.std.specs.Int.{Width, w8, w16, w32, w64, w128, cast_signed, cast_unsigned}
use Rattle.std.specs.Int.Bits.{xor_zero_r}
use Rattle.std.proofs.lemmas.Int.{ints, to_z_pos, to_z-of_z}
use Rattle.std.proofs.lemmas.Nat.{xor_block, pow_pos}
use Rattle.art_mapped.specs.Numbers.{digits}
use mir.Val.{bits, hbits}

-- below half, the flip sets the bit
flip_low : (h n : ℕ) → n < 2 ^ h → bit_xor n (2 ^ h) ≡ n + 2 ^ h
flip_low h n low =
    let whole = xor_block h 0 1 n 0 low (pow_pos h) in
    let zero_and : 0 * 2 ^ h + n ≡ n = omega arith in
    let one_and : 1 * 2 ^ h + 0 ≡ 2 ^ h = omega arith in
    let both = rw (zero_and, one_and, xor_zero_r n) at whole in
    both ∙ omega arith

-- from half on, the flip clears it
flip_high : (h n : ℕ) → 2 ^ h ≤ n → n < 2 ^ h + 2 ^ h → bit_xor n (2 ^ h) + 2 ^ h ≡ n
flip_high h n high below =
    let low : n - 2 ^ h < 2 ^ h = omega arith in
    let whole = xor_block h 1 1 (n - 2 ^ h) 0 low (pow_pos h) in
    let one_and : 1 * 2 ^ h + (n - 2 ^ h) ≡ n = omega arith in
    let one_alone : 1 * 2 ^ h + 0 ≡ 2 ^ h = omega arith in
    let both = rw (one_and, one_alone, xor_zero_r (n - 2 ^ h)) at whole in
    omega (arith, both)

halves : (w : Width) → 2 ^ bits w ≡ 2 ^ hbits w + 2 ^ hbits w
halves w8 = refl
halves w16 = refl
halves w32 = refl
halves w64 = refl
halves w128 = refl

-- a signed number's bits with the top one flipped are the number plus half of the range
pub flipped : (w : Width) (z : ℤ) → SFits w z → bit_xor (cast_unsigned w z) (2 ^ hbits w) ≡ unsigned_abs (z +ℤ pos (2 ^ hbits w))
flipped w (pos n) fits = flip_low (hbits w) n fits.sfits
flipped w (negsuc n) fits =
    let half = 2 ^ hbits w in
    let whole = halves w in
    let low : n < half = fits.sfits in
    let cleared = flip_high (hbits w) (2 ^ bits w - suc n) (omega arith) (omega arith) in
    let left : bit_xor (2 ^ bits w - suc n) half ≡ half - suc n = omega (arith, cleared) in
    left ∙ omega (arith, ints)

-- bits with the top one flipped stand for a number in the signed range, which plus half of the range is the bits
pub record IsFlippedBack (w : Width) (n : ℕ) (z : ℤ) : Type 0 where
  pub above : neg_ℤ (pos (2 ^ hbits w)) ≤ℤ z
  pub below : z <ℤ pos (2 ^ hbits w)
  pub raised : unsigned_abs (z +ℤ pos (2 ^ hbits w)) ≡ n

pub flipped_back : (w : Width) (n : ℕ) → n < 2 ^ bits w → IsFlippedBack w n (cast_signed w (bit_xor n (2 ^ hbits w)))
flipped_back w n below =
    let half = 2 ^ hbits w in
    let whole = halves w in
    elim (cases_lt n half) [
      | inl low ↦
          let set = flip_low (hbits w) n low in
          let gap : 2 ^ bits w - suc (n + half) ≡ half - suc n = omega arith in
          let over : half ≤ n + half = omega arith in
          let here : cast_signed w (bit_xor n half) ≡ negsuc (half - suc n) = rw (set, le-ltb (n + half) half over) (ap negsuc gap) in
          rw here (record { above = omega (arith, ints); below = omega (arith, ints); raised = omega (arith, ints) })
      | inr high ↦
          let cleared = flip_high (hbits w) n high (omega arith) in
          let at_left : bit_xor n half ≡ n - half = omega (arith, cleared) in
          let here : cast_signed w (bit_xor n half) ≡ pos (n - half) = ap (cast_signed w) at_left ∙ to_z_pos w (n - half) (omega arith) in
          rw here (record { above = omega (arith, ints); below = omega (arith, ints); raised = omega (arith, ints) })
    ]

-- the bytes of a signed number, from its bits
pub text_of_flipped : (w : Width) (width n : ℕ) (z : ℤ) (bytes : List ℕ) → SFits w z → n ≡ cast_unsigned w (cast_signed w (cast_unsigned w z)) → bytes ≡ digits width (bit_xor n (2 ^ hbits w))
    → bytes ≡ digits width (unsigned_abs (z +ℤ pos (2 ^ hbits w)))
text_of_flipped w width n z bytes fits bits_are text =
    text ∙ ap (digits width) (ap (λ m. bit_xor m (2 ^ hbits w)) (bits_are ∙ ap (cast_unsigned w) (to_z-of_z w z fits)) ∙ flipped w z fits)

-- bits with the top one flipped stand for a number in the signed range, whose bytes they are
pub read_flipped : (w : Width) (width n : ℕ) (z : ℤ) (bytes : List ℕ) → n < 2 ^ bits w → SFits w z → z ≡ cast_signed w (bit_xor n (2 ^ hbits w)) → digits width n ≡ bytes
    → ((neg_ℤ (pos (2 ^ hbits w)) ≤ℤ cast_signed w (cast_unsigned w z)) × (cast_signed w (cast_unsigned w z) <ℤ pos (2 ^ hbits w))) × (bytes ≡ digits width (unsigned_abs (cast_signed w (cast_unsigned w z) +ℤ pos (2 ^ hbits w))))
read_flipped w width n z bytes below fits is text =
    let back = rw (← is) at (flipped_back w n below) in
    rw (to_z-of_z w z fits) ((back.above, back.below), sym (ap (digits width) back.raised ∙ text))
