use Rattle.std.proofs.Common.{◌≡◌, ◌∙◌, ℕ, ◌+◌, ◌-◌, ◌%◌, ◌^◌, ◌<◌, ◌≤◌, ap, arith}
use Rattle.std.proofs.Math.Nat.{pow-le-pow_right}
use Rattle.art_routes.specs.Networks.{IsNetwork}
use Rattle.art_routes.proofs.BitLemmas.{last_fits}
use Rattle.art_routes.specs.KeyLaws.{family_most}
use Rattle.art_routes.proofs.network.last_of.Goals as goal

-- no bit stands behind all of them
none_behind_all : (n w : ℕ) → n % 2 ^ (w - w) ≡ 0
none_behind_all n w = let none : w - w ≡ 0 = omega arith in let one : n % 2 ^ 0 ≡ 0 = omega arith in ap (λ e. n % 2 ^ e) none ∙ one

module _ (width bits length others : ℕ) (is : IsNetwork (record { address = record { width = width; bits = bits }; length = length })) (are : others ≡ 2 ^ (width - length) - 1) where
  fits : bits + others < 2 ^ width
  fits = let under = last_fits bits (width - length) width (omega arith) is.none_behind is.bits in omega (arith, under, are)

  fits_all : bits + others < 2 ^ 128
  fits_all = let most : 2 ^ width ≤ 2 ^ 128 = pow-le-pow_right {n = 2} (omega arith) {i = width} {j = 128} (family_most width is.family) in omega (arith, most, fits)

  is_last : IsNetwork (record { address = record { width = width; bits = bits + others }; length = width })
  is_last = record { family = is.family; bits = fits; fits = omega arith; none_behind = none_behind_all (bits + others) width }

pub overflow_add-result : goal.overflow_add-result
overflow_add-result c = let all = fits_all c.network.inside.address.width c.network.inside.address.bits c.network.inside.count c.ones-others.result c.network.invariant c.ones-others.ensures in omega (arith, all)

pub invariant_of-result : goal.invariant_of-result
invariant_of-result c = is_last c.network.inside.address.width c.network.inside.address.bits c.network.inside.count c.ones-others.result c.network.invariant c.ones-others.ensures

pub returns-clause-network : goal.returns-clause-network
returns-clause-network c = is_last c.network.inside.address.width c.network.inside.address.bits c.network.inside.count c.ones-others.result c.network.invariant c.ones-others.ensures
