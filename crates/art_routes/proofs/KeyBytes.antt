-- The bytes of a key, written one after another.
use Rattle.std.proofs.Common.{◌≡◌, ◌∙◌, ℕ, suc, ◌+◌, ◌-◌, ◌*◌, ◌/◌, ◌%◌, ◌^◌, ◌<◌, ◌≤◌, List, [], ◌∷◌, ◌++◌, length, get_or, set, take, refl, sym, ap, subst, arith, append_assoc}
use Rattle.std.specs.Int.{w128, from_be_bytes, to_be_bytes}
use Rattle.std.proofs.Math.Nat.{pow-le-pow_right}
use Rattle.std.proofs.lemmas.List.{get_or-take, take_more_set}
use Rattle.art_routes.specs.KeyLaws.{width_most}
use Rattle.art_routes.specs.Keys.{KeyOf, block_of, key_text}
use Rattle.art_routes.specs.Networks.{Block, IsNetwork}
use Rattle.art_routes.specs.Strides.{bits_behind, kept, stride, stride_at, strides, symbol}
use Rattle.art_routes.specs.StrideLaws.{behind_is, stride_shifted}
use Rattle.art_routes.proofs.ByteLemmas.{read_back}

bits-below : (network : Block) → IsNetwork network → network.address.bits < 2 ^ 128
bits-below network is =
    let most : 2 ^ network.address.width ≤ 2 ^ 128 = pow-le-pow_right {n = 2} (omega arith) {i = network.address.width} {j = 128} (width_most network is) in
    omega (arith, most, is.bits)

module _ (text : List ℕ) (count rest number : ℕ) (whole : List ℕ) where
  -- a stride more
  pub one-stride : (i : ℕ) → 1 + i < length text → i < count → take (1 + i) text ++ strides (count - i) rest number ≡ whole → (byte next : ℕ) → byte ≡ symbol (stride number) 7 → next ≡ number * 2 ^ 7 % 2 ^ 128
      → take (1 + (i + 1)) (set text (1 + i) byte) ++ strides (count - (i + 1)) rest next ≡ whole
  one-stride i inside less so_far byte next byte_is next_is =
      let step : count - i ≡ suc (count - (i + 1)) = omega arith in
      let at : 1 + (i + 1) ≡ 1 + i + 1 = omega arith in
      let more : take (1 + (i + 1)) (set text (1 + i) byte) ≡ take (1 + i) text ++ byte ∷ [] = ap (λ k. take k (set text (1 + i) byte)) at ∙ take_more_set text (1 + i) byte inside in
      let tail : next ≡ bits_behind number = next_is ∙ sym (behind_is number) in
      (λ j. more j ++ strides (count - (i + 1)) rest (tail j)) ∙ append_assoc (take (1 + i) text) (byte ∷ []) (strides (count - (i + 1)) rest (bits_behind number))
      ∙ ap (λ b. take (1 + i) text ++ (b ∷ strides (count - (i + 1)) rest (bits_behind number))) byte_is
      ∙ ap (λ k. take (1 + i) text ++ strides k rest number) (sym step) ∙ so_far

  -- the last byte
  pub last-byte : (i places : ℕ) → 1 + count < length text → i ≡ count → take (1 + i) text ++ strides (count - i) rest number ≡ whole → (byte : ℕ) → byte ≡ symbol (kept rest (stride number)) rest → places ≡ count + 2
      → take places (set text (1 + count) byte) ≡ whole
  last-byte i places inside end so_far byte byte_is places_is =
      let none : count - i ≡ 0 = omega (arith, end) in
      let at : places ≡ 1 + count + 1 = omega (arith, places_is) in
      ap (λ k. take k (set text (1 + count) byte)) at ∙ take_more_set text (1 + count) byte inside
      ∙ ap (λ b. take (1 + count) text ++ b ∷ []) byte_is
      ∙ (λ j. take (1 + sym end j) text ++ strides (sym none j) rest number) ∙ so_far

-- the stride at a place, as code shifts it out
pub end-at : (n m place : ℕ) → n ≡ m → n < 2 ^ 128 → n * 2 ^ (7 * place) % 2 ^ 128 / 2 ^ 121 ≡ stride_at place m
end-at n m place same fits = sym (stride_shifted place n fits) ∙ ap (stride_at place) same

-- the network of the bytes that are written for it
module _ (text octets : List ℕ) (network : Block) (is : IsNetwork network) (written : take (network.length / 7 + 2) text ≡ key_text network) (bits : octets ≡ to_be_bytes w128 network.address.bits) where
  first-byte : (n : Block) → get_or (key_text n) 0 0 ≡ n.address.width
  unfolding key_text
  first-byte n = refl

  width-is : get_or text 0 0 ≡ network.address.width
  width-is = sym (get_or-take (network.length / 7 + 2) text 0 0 (omega arith)) ∙ ap (λ xs. get_or xs 0 0) written ∙ first-byte network

  pub block-is : block_of text octets network.length ≡ network
  block-is =
      let read = ap (from_be_bytes w128) bits ∙ read_back network.address.bits (bits-below network is) in
      λ i. record { address = record { width = width-is i; bits = read i }; length = network.length }

  pub key-of : KeyOf text (block_of text octets network.length)
  key-of = subst (KeyOf text) (sym block-is) (record { is_network = is; text = written })
