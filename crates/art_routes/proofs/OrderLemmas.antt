-- The order of networks, by their places: the first address, then the length.
use Rattle.std.proofs.Common.{◌≡◌, ◌∙◌, ◌⊎◌, inl, inr, ℕ, ◌+◌, ◌*◌, ◌^◌, ◌<◌, ◌≤◌, true, false, refl, sym, ap, arith}
use Rattle.std.proofs.Math.Nat.{pow-le-pow_right}
use Rattle.std.proofs.lemmas.Bool.{cases_lt}
use Rattle.std.proofs.lemmas.Cmp.{by_ranked, ranked}
use Rattle.std.specs.Ordering.{nat_cmp, ordering_then, is_ge, is_gt, is_le}
use Rattle.std.specs.declared.cmp.Ordering.TheVariants.{Less, Equal, Greater}
use Rattle.art_mapped.specs.DigitLaws.{order_of_two}
use Rattle.art_routes.specs.Networks.{Block, IsNetwork, network_order}
use Rattle.art_routes.specs.KeyLaws.{width_most}

abbrev pub place : Block → ℕ
place network = network.address.bits * 256 + network.length

pub length_small : (network : Block) → IsNetwork network → network.length < 256
length_small network is = omega (arith, is.fits, width_most network is)

by_place : (a b : Block) → a.length < 256 → b.length < 256 → network_order a b ≡ ordering_then (nat_cmp a.address.width b.address.width) (nat_cmp (place a) (place b))
by_place a b small small_too = ap (ordering_then (nat_cmp a.address.width b.address.width)) (sym (order_of_two 256 a.address.bits b.address.bits a.length b.length small small_too))

-- what comes no later is of fewer bits, or of as many and at a place that is no greater
no_later : (v w s t : ℕ) → is_le (ordering_then (nat_cmp v w) (nat_cmp s t)) ≡ true → (v < w) ⊎ ((v ≡ w) × (s ≤ t))
no_later v w s t is_up =
    by_ranked (v < w) (v ≡ w) (w < v) (nat_cmp v w) (ranked v w (nat_cmp v w) refl) (λ is less. inl less)
    (λ is same.
    by_ranked (s < t) (s ≡ t) (t < s) (nat_cmp s t) (ranked s t (nat_cmp s t) refl) (λ is' less. inr (same, omega (arith, less))) (λ is' equal. inr (same, omega (arith, equal)))
    (λ is' greater. let wrong : is_le Greater ≡ true = rw (is, is') at is_up in absurd (cc)))
    (λ is greater. let wrong : is_le Greater ≡ true = rw is at is_up in absurd (cc))

is_no_later : (v w s t : ℕ) → v ≡ w → s ≤ t → is_le (ordering_then (nat_cmp v w) (nat_cmp s t)) ≡ true
is_no_later v w s t same most =
    by_ranked (v < w) (v ≡ w) (w < v) (nat_cmp v w) (ranked v w (nat_cmp v w) refl) (λ is less. absurd (omega (arith, less, same)))
    (λ is equal.
    by_ranked (s < t) (s ≡ t) (t < s) (nat_cmp s t) (ranked s t (nat_cmp s t) refl) (λ is' less. rw (is, is') refl) (λ is' tied. rw (is, is') refl) (λ is' greater. absurd (omega (arith, greater, most))))
    (λ is greater. absurd (omega (arith, greater, same)))

pub place_up : (a b : Block) → a.length < 256 → b.length < 256 → is_le (network_order a b) ≡ true → (a.address.width < b.address.width) ⊎ ((a.address.width ≡ b.address.width) × (place a ≤ place b))
place_up a b small small_too up = no_later a.address.width b.address.width (place a) (place b) (ap is_le (sym (by_place a b small small_too)) ∙ up)

pub up_place : (a b : Block) → a.length < 256 → b.length < 256 → a.address.width ≡ b.address.width → place a ≤ place b → is_le (network_order a b) ≡ true
up_place a b small small_too same less = ap is_le (by_place a b small small_too) ∙ is_no_later a.address.width b.address.width (place a) (place b) same less

pub width_small : (network : Block) → IsNetwork network → network.address.width < 256
width_small network is = omega (arith, width_most network is)

-- what comes no earlier is of more bits, or of as many and at a place that is no less
no_earlier : (v w s t : ℕ) → is_ge (ordering_then (nat_cmp v w) (nat_cmp s t)) ≡ true → (w < v) ⊎ ((v ≡ w) × (t ≤ s))
no_earlier v w s t is_down =
    by_ranked (v < w) (v ≡ w) (w < v) (nat_cmp v w) (ranked v w (nat_cmp v w) refl) (λ is less. let wrong : is_ge Less ≡ true = rw is at is_down in absurd (cc))
    (λ is same.
    by_ranked (s < t) (s ≡ t) (t < s) (nat_cmp s t) (ranked s t (nat_cmp s t) refl) (λ is' less. let wrong : is_ge Less ≡ true = rw (is, is') at is_down in absurd (cc)) (λ is' equal. inr (same, omega (arith, equal)))
    (λ is' greater. inr (same, omega (arith, greater))))
    (λ is greater. inl greater)

is_no_earlier : (v w s t : ℕ) → v ≡ w → t ≤ s → is_ge (ordering_then (nat_cmp v w) (nat_cmp s t)) ≡ true
is_no_earlier v w s t same least =
    by_ranked (v < w) (v ≡ w) (w < v) (nat_cmp v w) (ranked v w (nat_cmp v w) refl) (λ is less. absurd (omega (arith, less, same)))
    (λ is equal.
    by_ranked (s < t) (s ≡ t) (t < s) (nat_cmp s t) (ranked s t (nat_cmp s t) refl) (λ is' less. absurd (omega (arith, less, least))) (λ is' tied. rw (is, is') refl) (λ is' greater. rw (is, is') refl))
    (λ is greater. absurd (omega (arith, greater, same)))

pub place_down : (a b : Block) → a.length < 256 → b.length < 256 → is_ge (network_order a b) ≡ true → (b.address.width < a.address.width) ⊎ ((a.address.width ≡ b.address.width) × (place b ≤ place a))
place_down a b small small_too down = no_earlier a.address.width b.address.width (place a) (place b) (ap is_ge (sym (by_place a b small small_too)) ∙ down)

pub down_place : (a b : Block) → a.length < 256 → b.length < 256 → a.address.width ≡ b.address.width → place b ≤ place a → is_ge (network_order a b) ≡ true
down_place a b small small_too same more = ap is_ge (by_place a b small small_too) ∙ is_no_earlier a.address.width b.address.width (place a) (place b) same more

-- a number by which networks sort
abbrev pub rank : Block → ℕ
rank network = network.address.width * 2 ^ 137 + place network

place_fits : (network : Block) → IsNetwork network → place network < 2 ^ 137
place_fits network is =
    let most : 2 ^ network.address.width ≤ 2 ^ 128 = pow-le-pow_right {n = 2} (omega arith) {i = network.address.width} {j = 128} (width_most network is) in
    let bits : network.address.bits < 2 ^ network.address.width = is.bits in
    omega (arith, most, bits, length_small network is)

pub by_rank : (a b : Block) → IsNetwork a → IsNetwork b → network_order a b ≡ nat_cmp (rank a) (rank b)
by_rank a b a_is b_is =
    by_place a b (length_small a a_is) (length_small b b_is) ∙ sym (order_of_two (2 ^ 137) a.address.width b.address.width (place a) (place b) (place_fits a a_is) (place_fits b b_is))

behind_number : (x y : ℕ) → is_gt (nat_cmp x y) ≡ true → y < x
behind_number x y test =
    by_ranked (x < y) (x ≡ y) (y < x) (nat_cmp x y) (ranked x y (nat_cmp x y) refl) (λ is _. let wrong : is_gt Less ≡ true = ap is_gt (sym is) ∙ test in absurd (cc))
    (λ is _. let wrong : is_gt Equal ≡ true = ap is_gt (sym is) ∙ test in absurd (cc)) (λ is more. more)

number_behind : (x y : ℕ) → y < x → is_gt (nat_cmp x y) ≡ true
number_behind x y more =
    by_ranked (x < y) (x ≡ y) (y < x) (nat_cmp x y) (ranked x y (nat_cmp x y) refl) (λ is less. absurd (omega (arith, less, more))) (λ is same. absurd (omega (arith, same, more))) (λ is _. ap is_gt is)

up_number : (x y : ℕ) → is_le (nat_cmp x y) ≡ true → x ≤ y
up_number x y test =
    by_ranked (x < y) (x ≡ y) (y < x) (nat_cmp x y) (ranked x y (nat_cmp x y) refl) (λ is less. omega (arith, less)) (λ is same. omega (arith, same)) (λ is more. let wrong : is_le Greater ≡ true = ap is_le (sym is) ∙ test in absurd (cc))

number_up : (x y : ℕ) → x ≤ y → is_le (nat_cmp x y) ≡ true
number_up x y most =
    by_ranked (x < y) (x ≡ y) (y < x) (nat_cmp x y) (ranked x y (nat_cmp x y) refl) (λ is less. ap is_le is) (λ is same. ap is_le is) (λ is more. absurd (omega (arith, more, most)))

down_number : (x y : ℕ) → is_ge (nat_cmp x y) ≡ true → y ≤ x
down_number x y test =
    by_ranked (x < y) (x ≡ y) (y < x) (nat_cmp x y) (ranked x y (nat_cmp x y) refl) (λ is less. let wrong : is_ge Less ≡ true = ap is_ge (sym is) ∙ test in absurd (cc)) (λ is same. omega (arith, same)) (λ is more. omega (arith, more))

number_down : (x y : ℕ) → y ≤ x → is_ge (nat_cmp x y) ≡ true
number_down x y least =
    by_ranked (x < y) (x ≡ y) (y < x) (nat_cmp x y) (ranked x y (nat_cmp x y) refl) (λ is less. absurd (omega (arith, less, least))) (λ is same. ap is_ge is) (λ is more. ap is_ge is)

number_less : (x y : ℕ) → nat_cmp x y ≡ Less → x < y
number_less x y test =
    by_ranked (x < y) (x ≡ y) (y < x) (nat_cmp x y) (ranked x y (nat_cmp x y) refl) (λ is less. less) (λ is same. let wrong : Equal ≡ Less = sym is ∙ test in absurd (cc)) (λ is more. let wrong : Greater ≡ Less = sym is ∙ test in absurd (cc))

-- the order of two networks, and of their numbers
module _ (a b : Block) (a_is : IsNetwork a) (b_is : IsNetwork b) where
  pub behind-rank : is_gt (network_order a b) ≡ true → rank b < rank a
  behind-rank test = behind_number (rank a) (rank b) (ap is_gt (sym (by_rank a b a_is b_is)) ∙ test)

  pub rank-behind : rank b < rank a → is_gt (network_order a b) ≡ true
  rank-behind more = ap is_gt (by_rank a b a_is b_is) ∙ number_behind (rank a) (rank b) more

  pub not-behind-rank : is_gt (network_order a b) ≡ false → rank a ≤ rank b
  not-behind-rank test = elim (cases_lt (rank b) (rank a)) [
    | inl more ↦ let wrong : true ≡ false = sym (rank-behind more) ∙ test in absurd (cc)
    | inr not_more ↦ omega (arith, not_more)
  ]

  pub up-rank : is_le (network_order a b) ≡ true → rank a ≤ rank b
  up-rank test = up_number (rank a) (rank b) (ap is_le (sym (by_rank a b a_is b_is)) ∙ test)

  pub rank-up : rank a ≤ rank b → is_le (network_order a b) ≡ true
  rank-up most = ap is_le (by_rank a b a_is b_is) ∙ number_up (rank a) (rank b) most

  pub down-rank : is_ge (network_order a b) ≡ true → rank b ≤ rank a
  down-rank test = down_number (rank a) (rank b) (ap is_ge (sym (by_rank a b a_is b_is)) ∙ test)

  pub rank-down : rank b ≤ rank a → is_ge (network_order a b) ≡ true
  rank-down least = ap is_ge (by_rank a b a_is b_is) ∙ number_down (rank a) (rank b) least

  pub less-rank : network_order a b ≡ Less → rank a < rank b
  less-rank test = number_less (rank a) (rank b) (sym (by_rank a b a_is b_is) ∙ test)
