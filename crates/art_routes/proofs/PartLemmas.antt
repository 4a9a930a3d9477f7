-- Networks that are parts of others, and lists of routes of which some are kept.
use Rattle.std.proofs.Common.{◌≡◌, ◌∙◌, ◌⊎◌, inl, inr, ℕ, zero, suc, ◌+◌, ◌-◌, ◌*◌, ◌/◌, ◌%◌, ◌^◌, ◌<◌, ◌≤◌, Bool, true, false, cond, List, [], ◌∷◌, All, Contains, filter, refl, sym, ap, arith}
use Rattle.std.specs.Prelude.{nat_lt}
use Rattle.std.specs.Ordering.{is_ge, is_le}
use Rattle.std.proofs.lemmas.Bool.{and_from, and_parts, cases_lt, lt-ltb, ltb-true}
use Rattle.std.proofs.lemmas.List.Elements.{All-head, All-tail}
use Rattle.std.proofs.lemmas.Nat.{shr-shr}
use Rattle.art_routes.specs.declared.address.Address.{Address}
use Rattle.art_routes.specs.Keys.{last_network}
use Rattle.art_routes.specs.Networks.{Block, IsNetwork, covers, first_bits, is_around, network_order}
use Rattle.art_routes.proofs.BitLemmas.{last_fits, none_behind}
use Rattle.art_routes.proofs.CoverLemmas.{is-over, over-is, starts_in}
use Rattle.art_routes.proofs.CoveredLemmas.{in_range}
use Rattle.art_routes.proofs.OrderLemmas.{down-rank, length_small, rank, rank-down, rank-up, up-rank}

-- ---- lists
module _ {X : Type 0} where
  -- what passes the one test passes the other too
  pub filter-through : (c q : X → Bool) (xs : List X) → All (λ x. c x ≡ true → q x ≡ true) xs → filter c (filter q xs) ≡ filter c xs
  filter-through c q [] passes = refl
  filter-through c q (x ∷ xs) passes =
      by_test (q x) refl (filter-through c q xs (All-tail (λ y. c y ≡ true → q y ≡ true) x xs passes))
    where
      by_other : (t : Bool) → c x ≡ t → q x ≡ false → filter c (filter q xs) ≡ filter c xs → filter c (filter q xs) ≡ filter c (x ∷ xs)
      by_other true at not_q rest = let wrong : true ≡ false = sym (All-head (λ y. c y ≡ true → q y ≡ true) x xs passes at) ∙ not_q in absurd (cc)
      by_other false at not_q rest = rw at rest

      by_test : (t : Bool) → q x ≡ t → filter c (filter q xs) ≡ filter c xs → filter c (filter q (x ∷ xs)) ≡ filter c (x ∷ xs)
      by_test true at rest = rw at (by_kept (c x) refl rest)
        where
          by_kept : (t : Bool) → c x ≡ t → filter c (filter q xs) ≡ filter c xs → filter c (x ∷ filter q xs) ≡ filter c (x ∷ xs)
          by_kept true is rest = rw is (ap (λ more. x ∷ more) rest)
          by_kept false is rest = rw is rest
      by_test false at rest = rw at (by_other (c x) refl at rest)

  pub filter-all : (p : X → Bool) (xs : List X) → All (λ x. p x ≡ true) xs → filter p xs ≡ xs
  filter-all p [] passes = refl
  filter-all p (x ∷ xs) passes = rw (All-head (λ y. p y ≡ true) x xs passes) (ap (λ more. x ∷ more) (filter-all p xs (All-tail (λ y. p y ≡ true) x xs passes)))

  -- two tests, in either order
  pub filter-swap : (p q : X → Bool) (xs : List X) → filter p (filter q xs) ≡ filter q (filter p xs)
  filter-swap p q [] = refl
  filter-swap p q (x ∷ xs) = by_tests (p x) (q x) refl refl (filter-swap p q xs)
    where
      by_tests : (s t : Bool) → p x ≡ s → q x ≡ t → filter p (filter q xs) ≡ filter q (filter p xs) → filter p (filter q (x ∷ xs)) ≡ filter q (filter p (x ∷ xs))
      by_tests true true is at rest = rw (is, at) (rw is (ap (λ more. x ∷ more) rest))
      by_tests true false is at rest = rw (is, at) rest
      by_tests false true is at rest = rw (is, at) (rw is rest)
      by_tests false false is at rest = rw (is, at) rest

  -- what passes is among those that do
  pub kept-contains : (p : X → Bool) (xs : List X) (x : X) → Contains xs x → p x ≡ true → Contains (filter p xs) x
  kept-contains p [] x (k, within, at) passes = absurd (omega (arith, within))
  kept-contains p (y ∷ xs) x (zero, within, at) passes =
      let first : p y ≡ true = ap p at ∙ passes in
      rw first (0, omega arith, at)
  kept-contains p (y ∷ xs) x (suc k, within, at) passes = by_test (p y) refl (kept-contains p xs x (k, omega (arith, within), at) passes)
    where
      by_test : (t : Bool) → p y ≡ t → Contains (filter p xs) x → Contains (filter p (y ∷ xs)) x
      by_test true is (j, inside, there) = rw is (suc j, omega (arith, inside), there)
      by_test false is there = rw is there

  further : (x y : X) (xs : List X) → Contains xs x → Contains (y ∷ xs) x
  further x y xs (k, within, at) = (suc k, omega (arith, within), at)

  one-more : (x y : X) (kept xs : List X) → (Contains kept x → Contains xs x) → Contains (y ∷ kept) x → Contains (y ∷ xs) x
  one-more x y kept xs rest (zero, within, at) = (0, omega arith, at)
  one-more x y kept xs rest (suc k, within, at) = further x y xs (rest (k, omega (arith, within), at))

  -- and those that do are of the list
  pub contains-kept : (p : X → Bool) (xs : List X) (x : X) → Contains (filter p xs) x → Contains xs x
  contains-kept p [] x there = there
  contains-kept p (y ∷ xs) x there = by_test (p y) (contains-kept p xs x) there
    where
      by_test : (t : Bool) → (Contains (filter p xs) x → Contains xs x) → Contains (cond t (y ∷ filter p xs) (filter p xs)) x → Contains (y ∷ xs) x
      by_test true rest there = one-more x y (filter p xs) xs rest there
      by_test false rest there = further x y xs (rest there)

  pub head-or-rest : (x : X) (xs : List X) (y : X) → Contains (x ∷ xs) y → (x ≡ y) ⊎ Contains xs y
  head-or-rest x xs y (zero, within, at) = inl at
  head-or-rest x xs y (suc k, within, at) = inr (k, omega (arith, within), at)

-- ---- networks
-- no bit stands behind all of them
none_behind_all : (n w : ℕ) → n % 2 ^ (w - w) ≡ 0
none_behind_all n w = let none : w - w ≡ 0 = omega arith in let one : n % 2 ^ 0 ≡ 0 = omega arith in ap (λ e. n % 2 ^ e) none ∙ one

pub last-is : (network : Block) → IsNetwork network → IsNetwork (last_network network)
last-is network is = record {
  family = is.family;
  bits = last_fits network.address.bits (network.address.width - network.length) network.address.width (omega arith) is.none_behind is.bits;
  fits = omega arith;
  none_behind = none_behind_all (network.address.bits + (2 ^ (network.address.width - network.length) - 1)) network.address.width;
}

module _ (network other : Block) (is : IsNetwork network) (other_is : IsNetwork other) where
  -- what a network covers stands between it and its last address alone
  pub covers-from : covers network other ≡ true → rank network ≤ rank other
  covers-from test = down-rank other network other_is is (and_parts (is_le (network_order other (last_network network))) (is_ge (network_order other network)) (in_range network other is other_is ∙ test)).1

  pub covers-to : covers network other ≡ true → rank other ≤ rank (last_network network)
  covers-to test = up-rank other (last_network network) other_is (last-is network is) (and_parts (is_le (network_order other (last_network network))) (is_ge (network_order other network)) (in_range network other is other_is ∙ test)).0

  pub within-covers : rank network ≤ rank other → rank other ≤ rank (last_network network) → covers network other ≡ true
  within-covers from to =
      sym (in_range network other is other_is)
      ∙ and_from (is_le (network_order other (last_network network))) (is_ge (network_order other network)) (rank-up other (last_network network) other_is (last-is network is) to) (rank-down other network other_is is from)

  -- of one length they are one
  pub same-by-length : covers network other ≡ true → network.length ≡ other.length → network ≡ other
  same-by-length test lengths =
      let over = is-over network other.address other.length test in
      let widths : other.address.width ≡ network.address.width = over.in_it.widths in
      let start : network.address.bits ≡ first_bits other.address network.length * 2 ^ (other.address.width - network.length) = starts_in network other.address is over.in_it in
      let whole : other.address.bits / 2 ^ (other.address.width - other.length) * 2 ^ (other.address.width - other.length) ≡ other.address.bits = none_behind other.address.bits (other.address.width - other.length) other_is.none_behind in
      let bits : network.address.bits ≡ other.address.bits = start ∙ ap (λ n. other.address.bits / 2 ^ (other.address.width - n) * 2 ^ (other.address.width - n)) lengths ∙ whole in
      λ i. record { address = record { width = sym widths i; bits = bits i }; length = lengths i }

  -- one that stands behind it is another one
  pub around-from : covers network other ≡ true → rank network < rank other → is_around network other ≡ true
  around-from test behind =
      let over = is-over network other.address other.length test in
      and_from (covers network other) (nat_lt network.length other.length) test
      (elim (cases_lt network.length other.length) [
        | inl less ↦ lt-ltb network.length other.length less
        | inr not_less ↦
            let same = ap rank (same-by-length test (omega (arith, not_less, over.shorter))) in
            absurd (omega (arith, same, behind))
      ])

  pub around-behind : is_around network other ≡ true → rank network < rank other
  around-behind test =
      let both = and_parts (covers network other) (nat_lt network.length other.length) test in
      let less = ltb-true network.length other.length both.1 in
      elim (cases_lt (rank network) (rank other)) [
        | inl behind ↦ behind
        | inr not_behind ↦
            let from = covers-from both.0 in
            let same : rank network ≡ rank other = omega (arith, from, not_behind) in
            absurd (omega (arith, same, less, length_small network is, length_small other other_is))
      ]

pub around-covers : (network other : Block) → is_around network other ≡ true → covers network other ≡ true
around-covers network other test = (and_parts (covers network other) (nat_lt network.length other.length) test).0

pub covers-itself : (network : Block) → covers network network ≡ true
covers-itself network = over-is network network.address network.length (record { in_it = record { widths = refl; same = refl }; shorter = omega arith })

-- fewer first bits of an address, by more of them
pub fewer_bits : (address : Address) (n l : ℕ) → n ≤ l → l ≤ address.width → first_bits address n ≡ first_bits address l / 2 ^ (l - n)
fewer_bits address n l less most =
    let sum : address.width - n ≡ address.width - l + (l - n) = omega (arith, less, most) in
    ap (λ e. address.bits / 2 ^ e) sum ∙ sym (shr-shr address.bits (address.width - l) (l - n))

-- a part of a part is one
pub covers-part : (a b c : Block) → IsNetwork b → IsNetwork c → covers a b ≡ true → covers b c ≡ true → covers a c ≡ true
covers-part a b c b_is c_is outer inner =
    let p = is-over a b.address b.length outer in
    let q = is-over b c.address c.length inner in
    let few : a.length ≤ b.length = p.shorter in
    let some : b.length ≤ c.length = q.shorter in
    over-is a c.address c.length (record {
      in_it = record {
        widths = q.in_it.widths ∙ p.in_it.widths;
        same =
            fewer_bits c.address a.length b.length few (omega (arith, some, c_is.fits))
            ∙ ap (λ x. x / 2 ^ (b.length - a.length)) q.in_it.same
            ∙ sym (fewer_bits b.address a.length b.length few b_is.fits)
            ∙ p.in_it.same;
      };
      shorter = omega (arith, few, some);
    })
