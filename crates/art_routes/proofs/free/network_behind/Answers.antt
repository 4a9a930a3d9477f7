use Rattle.std.proofs.Common.{◌≡◌, ◌∙◌, ℕ, suc, ◌+◌, ◌-◌, ◌*◌, ◌/◌, ◌^◌, ◌<◌, ◌≤◌, ap, arith}
use Rattle.std.proofs.Math.Pow.{shr_mono}
use Rattle.std.proofs.lemmas.Nat.{pow_pos, shl-shr}
use Rattle.art_routes.specs.Keys.{last_network}
use Rattle.art_routes.specs.Networks.{first_bits}
use Rattle.art_routes.proofs.free.network_behind.Goals as goal

-- the address behind the last one with these first bits
module _ (q k end : ℕ) (is : end ≡ q * 2 ^ k + (2 ^ k - 1)) where
  next_bits : end + 1 ≡ suc q * 2 ^ k
  next_bits = omega (arith, is, pow_pos k)

  begins : (end + 1) / 2 ^ k * 2 ^ k ≡ suc q * 2 ^ k
  begins = ap (λ n. n / 2 ^ k * 2 ^ k) next_bits ∙ ap (λ n. n * 2 ^ k) (shl-shr (suc q) k)

  before : (last : ℕ) → end < last → q < last / 2 ^ k
  before last less =
      let most : suc q * 2 ^ k ≤ last = omega (arith, next_bits, less) in
      let all = shr_mono k most in
      omega (arith, all, shl-shr (suc q) k)

pub returns : goal.returns
returns c =
    let q = first_bits c.args.address c.args.length in
    let k = c.args.address.width - c.args.length in
    let end : c.parts.result.0.bits ≡ q * 2 ^ k + (2 ^ k - 1) = ap (λ a. a.bits) c.parts.ensures.address ∙ ap (λ n. n.address.bits) c.last_of.ensures.last ∙ ap (λ n. (last_network n).address.bits) c.network_at.ensures in (
      before q k c.parts.result.0.bits end c.args.last c.if-end-last.false,
      c.network_at-2.ensures ∙ (λ i. record { address = record { width = c.args.address.width; bits = begins q k c.parts.result.0.bits end i }; length = c.args.length }),
    )
