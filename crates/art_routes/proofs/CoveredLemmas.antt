-- The networks that a network covers are those of a range.
use Rattle.std.proofs.Common.{◌≡◌, ◌∙◌, ◌⊎◌, inl, inr, ℕ, ◌+◌, ◌-◌, ◌*◌, ◌/◌, ◌%◌, ◌^◌, ◌<◌, ◌≤◌, true, ◌&&◌, sym, ap, arith, mul_comm}
use Rattle.std.specs.Prelude.{nat_le}
use Rattle.std.specs.Ordering.{is_le, is_ge}
use Rattle.std.proofs.Math.Nat.{div-mul-le_self, lt-div-mul-add}
use Rattle.std.proofs.Math.Pow.{shr_mono}
use Rattle.std.proofs.lemmas.Bool.{and_from, and_parts, cases_lt, le-leb, leb-true}
use Rattle.std.proofs.lemmas.Nat.{mul-add-lt, pow_pos, shr-shr}
use Rattle.art_routes.specs.Keys.{last_network}
use Rattle.art_routes.specs.Networks.{Block, IsNetwork, contains, covers, network_order}
use Rattle.art_routes.proofs.BitLemmas.{none_behind}
use Rattle.art_routes.proofs.CoveringLemmas.{same_tests}
use Rattle.art_routes.proofs.CoverLemmas.{in-is, is-in}
use Rattle.art_routes.proofs.OrderLemmas.{length_small, width_small, place, place_down, down_place, place_up, up_place}

-- numbers from q * 2 ^ k on, fewer than 2 ^ k of them, are q without their last k bits
whole_part : (n x k : ℕ) → n % 2 ^ k ≡ 0 → n ≤ x → x ≤ n + (2 ^ k - 1) → x / 2 ^ k ≡ n / 2 ^ k
whole_part n x k none least most =
    let low : n / 2 ^ k ≤ x / 2 ^ k = shr_mono k least in
    let begins : n / 2 ^ k * 2 ^ k ≡ n = none_behind n k none in
    let some : 0 < 2 ^ k = pow_pos k in
    let down : x / 2 ^ k * 2 ^ k ≤ x = div-mul-le_self x (2 ^ k) in
    elim (cases_lt (n / 2 ^ k) (x / 2 ^ k)) [
      | inl more ↦
          let over : n / 2 ^ k * 2 ^ k + (2 ^ k - 1) < 2 ^ k * (x / 2 ^ k) = mul-add-lt (n / 2 ^ k) (2 ^ k) (2 ^ k - 1) (x / 2 ^ k) more (omega (arith, some)) in
          absurd (omega (arith, over, mul_comm (2 ^ k) (x / 2 ^ k), down, most, begins))
      | inr no_more ↦ omega (arith, low, no_more)
    ]

module _ (network other : Block) (is : IsNetwork network) (other_is : IsNetwork other) where
  abbrev behind : ℕ
  behind = network.address.width - network.length

  -- what a network covers comes from its first address with its length on, up to its last address alone
  from_cover : covers network other ≡ true → (is_le (network_order other (last_network network)) && is_ge (network_order other network)) ≡ true
  from_cover test =
      let both = and_parts (contains network other.address) (nat_le network.length other.length) test in
      let in_it = is-in network other.address both.0 in
      let longer = leb-true network.length other.length both.1 in
      let same : other.address.bits / 2 ^ behind ≡ network.address.bits / 2 ^ behind = ap (λ w. other.address.bits / 2 ^ (w - network.length)) (sym in_it.widths) ∙ in_it.same in
      let begins : network.address.bits / 2 ^ behind * 2 ^ behind ≡ network.address.bits = none_behind network.address.bits behind is.none_behind in
      let down : other.address.bits / 2 ^ behind * 2 ^ behind ≤ other.address.bits = div-mul-le_self other.address.bits (2 ^ behind) in
      let up : other.address.bits < other.address.bits / 2 ^ behind * 2 ^ behind + 2 ^ behind = lt-div-mul-add (pow_pos behind) in
      let joined : other.address.bits / 2 ^ behind * 2 ^ behind ≡ network.address.bits = ap (λ q. q * 2 ^ behind) same ∙ begins in
      and_from (is_le (network_order other (last_network network))) (is_ge (network_order other network))
      (up_place other (last_network network) (length_small other other_is) (width_small network is) in_it.widths (omega (arith, up, joined, other_is.fits, in_it.widths)))
      (down_place other network (length_small other other_is) (length_small network is) in_it.widths (omega (arith, down, joined, longer)))

  to_cover : (is_le (network_order other (last_network network)) && is_ge (network_order other network)) ≡ true → covers network other ≡ true
  to_cover test =
      let both = and_parts (is_le (network_order other (last_network network))) (is_ge (network_order other network)) test in
      by_sides (place_up other (last_network network) (length_small other other_is) (width_small network is) both.0)
      (place_down other network (length_small other other_is) (length_small network is) both.1)
    where
      by_sides : (other.address.width < network.address.width) ⊎ ((other.address.width ≡ network.address.width) × (place other ≤ place (last_network network)))
          → (network.address.width < other.address.width) ⊎ ((other.address.width ≡ network.address.width) × (place network ≤ place other)) → covers network other ≡ true
      by_sides (inl less) (inl more) = absurd (omega (arith, less, more))
      by_sides (inl less) (inr down) = absurd (omega (arith, less, down.0))
      by_sides (inr up) (inl more) = absurd (omega (arith, more, up.0))
      by_sides (inr up) (inr down) =
          let small = length_small other other_is in
          let wide = width_small network is in
          let least : network.address.bits ≤ other.address.bits = omega (arith, down.1, small, length_small network is) in
          let most : other.address.bits ≤ network.address.bits + (2 ^ behind - 1) = omega (arith, up.1, small, wide) in
          let same = whole_part network.address.bits other.address.bits behind is.none_behind least most in
          and_from (contains network other.address) (nat_le network.length other.length)
          (in-is network other.address (record { widths = up.0; same = ap (λ w. other.address.bits / 2 ^ (w - network.length)) up.0 ∙ same }))
          (le-leb network.length other.length (longer up.0 least down.1 same))
        where
          -- a shorter network that begins there begins before
          longer : other.address.width ≡ network.address.width → network.address.bits ≤ other.address.bits → place network ≤ place other → other.address.bits / 2 ^ behind ≡ network.address.bits / 2 ^ behind → network.length ≤ other.length
          longer widths least places same = elim (cases_lt other.length network.length) [
            | inl shorter ↦
                let j = other.address.width - other.length in
                let d = j - behind in
                let sum : j ≡ behind + d = omega (arith, widths, shorter, is.fits) in
                let first : other.address.bits / 2 ^ j ≡ network.address.bits / 2 ^ j =
                ap (λ e. other.address.bits / 2 ^ e) sum ∙ sym (shr-shr other.address.bits behind d) ∙ ap (λ q. q / 2 ^ d) same ∙ shr-shr network.address.bits behind d ∙ ap (λ e. network.address.bits / 2 ^ e) (sym sum) in
                let begins : other.address.bits / 2 ^ j * 2 ^ j ≡ other.address.bits = none_behind other.address.bits j other_is.none_behind in
                let down : network.address.bits / 2 ^ j * 2 ^ j ≤ network.address.bits = div-mul-le_self network.address.bits (2 ^ j) in
                let joined : other.address.bits / 2 ^ j * 2 ^ j ≡ network.address.bits / 2 ^ j * 2 ^ j = ap (λ q. q * 2 ^ j) first in
                absurd (omega (arith, begins, down, joined, places, shorter))
            | inr no_shorter ↦ omega (arith, no_shorter)
          ]

  pub in_range : (is_le (network_order other (last_network network)) && is_ge (network_order other network)) ≡ covers network other
  in_range = same_tests (is_le (network_order other (last_network network)) && is_ge (network_order other network)) (covers network other) to_cover from_cover
