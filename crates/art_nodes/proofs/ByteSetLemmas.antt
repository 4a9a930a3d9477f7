-- Sets of bytes: the bits of a word, and the bytes of four words.
use Rattle.std.proofs.Common.{◌≡◌, ◌≢◌, ℕ, suc, ◌+◌, ◌-◌, ◌*◌, ◌/◌, ◌%◌, ◌^◌, ◌<◌, ◌≤◌, min, ◌==◌, List, length, get_or, set, refl, sym, ◌∙◌, ap, arith, inl, inr}
use Rattle.std.specs.Int.{bit_at, w64, trailing_zeros}
use Rattle.std.specs.Int.Bits.{bit_and}
use Rattle.std.proofs.lemmas.List.{get_or-set_same, get_or-set_other}
use Rattle.std.proofs.Math.Nat.{pow-suc}
use Rattle.std.proofs.lemmas.Bool.{cases_lt}
use Rattle.std.proofs.lemmas.Nat.{and_le_l, le-div, div_below}
use Rattle.std.proofs.lemmas.Nat.Bits.{bit_at-lt, bit_at_and, bit_at_mask_inside, bit_at_mask_below, bit_at_ones, bit_at_ones_above, bit_at_above, bit_at-zero, ones_shl, ones_shr, bit_at-trailing_zeros}
use Rattle.art_nodes.specs.ByteSet.{HasNoBit, has_byte, HasNoByte}
use Rattle.art_nodes.proofs.ChildMapLemmas.{cases_eq}

-- the bits of a word from one place on, and those below one
abbrev from_bit : ℕ → ℕ → ℕ
from_bit word from = bit_and word (18446744073709551615 * 2 ^ from % 18446744073709551616)

abbrev below_bit : ℕ → ℕ → ℕ
below_bit word end = bit_and word (18446744073709551615 / 2 ^ (64 - end))

from_bit-kept : (word from bit : ℕ) → from ≤ bit → bit < 64 → bit_at (from_bit word from) bit ≡ bit_at word bit
from_bit-kept word from bit le lt =
    let mask : 18446744073709551615 * 2 ^ from % 18446744073709551616 ≡ 2 ^ 64 - 2 ^ from = ones_shl 64 from (omega arith) in
    let inside = bit_at_mask_inside from 64 bit le lt in
    bit_at_and word _ bit ∙ ap (λ m. min (bit_at word bit) (bit_at m bit)) mask ∙ ap (λ b. min (bit_at word bit) b) inside ∙ omega (arith, bit_at-lt word bit)

from_bit-cut : (word from bit : ℕ) → from ≤ 64 → bit < from → bit_at (from_bit word from) bit ≡ 0
from_bit-cut word from bit le lt =
    let mask : 18446744073709551615 * 2 ^ from % 18446744073709551616 ≡ 2 ^ 64 - 2 ^ from = ones_shl 64 from le in
    let outside = bit_at_mask_below from 64 bit lt in
    bit_at_and word _ bit ∙ ap (λ m. min (bit_at word bit) (bit_at m bit)) mask ∙ ap (λ b. min (bit_at word bit) b) outside ∙ omega arith

below_bit-kept : (word end bit : ℕ) → end ≤ 64 → bit < end → bit_at (below_bit word end) bit ≡ bit_at word bit
below_bit-kept word end bit le lt =
    let back : 64 - (64 - end) ≡ end = omega arith in
    let mask : 18446744073709551615 / 2 ^ (64 - end) ≡ 2 ^ end - 1 = ones_shr 64 (64 - end) (omega arith) ∙ ap (λ n. 2 ^ n - 1) back in
    let inside = bit_at_ones end bit lt in
    bit_at_and word _ bit ∙ ap (λ m. min (bit_at word bit) (bit_at m bit)) mask ∙ ap (λ b. min (bit_at word bit) b) inside ∙ omega (arith, bit_at-lt word bit)

below_bit-cut : (word end bit : ℕ) → end ≤ 64 → end ≤ bit → bit_at (below_bit word end) bit ≡ 0
below_bit-cut word end bit le lt =
    let back : 64 - (64 - end) ≡ end = omega arith in
    let mask : 18446744073709551615 / 2 ^ (64 - end) ≡ 2 ^ end - 1 = ones_shr 64 (64 - end) (omega arith) ∙ ap (λ n. 2 ^ n - 1) back in
    let outside = bit_at_ones_above end bit lt in
    bit_at_and word _ bit ∙ ap (λ m. min (bit_at word bit) (bit_at m bit)) mask ∙ ap (λ b. min (bit_at word bit) b) outside ∙ omega arith

-- no bit is set from one place on where the remaining bits of the word are 0
pub none_from : (word from : ℕ) → from_bit word from ≡ 0 → HasNoBit word from 64
none_from word from none bit le lt = sym (from_bit-kept word from bit le lt) ∙ ap (λ n. bit_at n bit) none ∙ bit_at-zero bit

pub none_below : (word end : ℕ) → end ≤ 64 → below_bit word end ≡ 0 → HasNoBit word 0 end
none_below word end fits none bit le lt = sym (below_bit-kept word end bit fits lt) ∙ ap (λ n. bit_at n bit) none ∙ bit_at-zero bit

-- the lowest remaining bit is the first from that place on
pub lowest_from : (word from : ℕ) → from < 64 → word < 2 ^ 64 → 0 < from_bit word from → (from ≤ trailing_zeros w64 (from_bit word from)) × (trailing_zeros w64 (from_bit word from) < 64) × (bit_at word (trailing_zeros w64 (from_bit word from)) ≡ 1) × HasNoBit word from (trailing_zeros w64 (from_bit word from))
lowest_from word from within small some =
    let bits = from_bit word from in
    let low = trailing_zeros w64 bits in
    let found = bit_at-trailing_zeros w64 bits some (omega (arith, and_le_l word (18446744073709551615 * 2 ^ from % 18446744073709551616), small)) in
    let after : from ≤ low = elim (cases_lt low from) [
      | inl lt ↦ let cut = from_bit-cut word from low (omega arith) lt in absurd (omega (arith, cut, found.1))
      | inr le ↦ le
    ] in
    (after, found.0, sym (from_bit-kept word from low after found.0) ∙ found.1, λ bit le lt. sym (from_bit-kept word from bit le (omega (arith, found.0, lt))) ∙ found.2 bit lt)

-- the highest bit of a number, by its logarithm
highest : (bits bit : ℕ) → 2 ^ bit ≤ bits → bits < 2 * 2 ^ bit → bit_at bits bit ≡ 1
highest bits bit le lt =
    let least = le-div 1 bits (2 ^ bit) (omega arith) (omega arith) in
    let most = div_below bits (2 ^ bit) 2 (omega arith) lt in
    let one : bits / 2 ^ bit ≡ 1 = omega (arith, least, most) in
    ap (λ n. n % 2) one

-- the highest remaining bit is the last below the end
pub highest_below : (word end bit : ℕ) → end ≤ 64 → 2 ^ bit ≤ below_bit word end → below_bit word end < 2 * 2 ^ bit → (bit < end) × (bit_at word bit ≡ 1) × HasNoBit word (bit + 1) end
highest_below word end bit fits le lt =
    let bits = below_bit word end in
    let set = highest bits bit le lt in
    let before : bit < end = elim (cases_lt bit end) [
      | inl less ↦ less
      | inr from ↦ let cut = below_bit-cut word end bit fits from in absurd (omega (arith, cut, set))
    ] in
    let small : bits < 2 ^ suc bit = omega (arith, pow-suc 2 bit, lt) in
    (before, sym (below_bit-kept word end bit fits before) ∙ set, λ other after under. sym (below_bit-kept word end other fits under) ∙ bit_at_above bits (suc bit) other small (omega arith))

-- after a word was written, its bits are those of the bytes that it has
pub has_byte-written : (words : List ℕ) (byte word : ℕ) → byte / 64 < length words → has_byte (set words (byte / 64) word) byte ≡ (bit_at word (byte % 64) == 1)
has_byte-written words byte word within = ap (λ w. bit_at w (byte % 64) == 1) (get_or-set_same words (byte / 64) word 0 within)

-- and where one bit of it was changed, each other byte is as before
pub has_byte-others : (words : List ℕ) (byte word : ℕ) → byte / 64 < length words → ((bit : ℕ) → bit < 64 → bit ≢ byte % 64 → bit_at word bit ≡ bit_at (get_or words (byte / 64) 0) bit) → (other : ℕ) → other ≢ byte → has_byte (set words (byte / 64) word) other ≡ has_byte words other
has_byte-others words byte word within kept other differs = elim (cases_eq (other / 64) (byte / 64)) [
  | inl same ↦
      let apart : other % 64 ≢ byte % 64 = λ e. differs (omega (arith, e, same)) in
      ap (λ n. bit_at (get_or (set words (byte / 64) word) n 0) (other % 64) == 1) same
      ∙ ap (λ w. bit_at w (other % 64) == 1) (get_or-set_same words (byte / 64) word 0 within)
      ∙ ap (λ b. b == 1) (kept (other % 64) (omega arith) apart)
      ∙ ap (λ n. bit_at (get_or words n 0) (other % 64) == 1) (sym same)
  | inr apart ↦ ap (λ w. bit_at w (other % 64) == 1) (get_or-set_other words (byte / 64) (other / 64) word 0 apart)
]

-- no byte before a word, and no bit of the word before one of them, is no byte before both
pub none_through : (words : List ℕ) (from index start bit : ℕ) → HasNoByte words from (64 * index) → start ≡ from - 64 * index → bit < 64 → HasNoBit (get_or words index 0) start bit → HasNoByte words from (64 * index + bit)
none_through words from index start bit earlier start_is within none byte above below = elim (cases_lt byte (64 * index)) [
  | inl before ↦ earlier byte above before
  | inr later ↦
      let word : byte / 64 ≡ index = omega arith in
      let place : byte % 64 ≡ byte - 64 * index = omega arith in
      rw (word, place, none (byte - 64 * index) (omega arith) (omega arith)) refl
]
