-- The routes that cover a network, the longest first, and the shortest that contains an address.
use Rattle.std.proofs.Common.{◌≡◌, ◌∙◌, inl, inr, ℕ, zero, suc, ◌-◌, ◌<◌, ◌≤◌, Bool, true, false, List, [], ◌∷◌, ◌++◌, All, AllPairs, Contains, Option, None, Some, filter, get_or, reverse, refl, sym, ap, subst, arith}
use Rattle.std.specs.Option.{SomeIff}
use Rattle.std.specs.Ordering.{is_ge}
use Rattle.std.specs.declared.cmp.Ordering.TheVariants.{Less}
use Rattle.std.proofs.lemmas.Bool.{cases_lt, false_from_ne_true}
use Rattle.std.proofs.lemmas.List.{reverse-append}
use Rattle.std.proofs.lemmas.List.Elements.{All-contains, All-head, All-tail}
use Rattle.art_routes.specs.declared.address.Address.{Address}
use Rattle.art_routes.specs.Keys.{covering_left}
use Rattle.art_routes.specs.Networks.{Block, IsNetwork, covers, network_order}
use Rattle.art_routes.specs.Tables.{AreInOrder, IsLongestOver, NoneCovers, covering}
use Rattle.art_routes.proofs.BitLemmas.{fewer_first}
use Rattle.art_routes.proofs.CoverLemmas.{IsIn, IsOver, is-over, over-is, starts_in}
use Rattle.art_routes.proofs.OrderLemmas.{length_small, down_place}

pub same_tests : (a b : Bool) → (a ≡ true → b ≡ true) → (b ≡ true → a ≡ true) → a ≡ b
same_tests true b to from = sym (to refl)
same_tests false true to from = from refl
same_tests false false to from = refl

pub filter-none : {X : Type 0} (p : X → Bool) (xs : List X) → All (λ x. p x ≡ false) xs → filter p xs ≡ []
filter-none p [] fails = refl
filter-none p (x ∷ xs) fails = rw (All-head (λ y. p y ≡ false) x xs fails) (filter-none p xs (All-tail (λ y. p y ≡ false) x xs fails))

-- a list in order, one of it that the first test keeps and the second does not: before it they are one, and behind it they keep none
module _ {X : Type 0} (R : X → X → Type 0) (N : X → Type 0) (p q : X → Bool) (x : X) (kept : p x ≡ true) (left : q x ≡ false)
    (before : (y : X) → N y → R y x → p y ≡ q y) (p_after : (y : X) → N y → R x y → p y ≡ false) (q_after : (y : X) → N y → R x y → q y ≡ false) where
  none_after : (f : X → Bool) → ((y : X) → N y → R x y → f y ≡ false) → (xs : List X) → All N xs → All (R x) xs → filter f xs ≡ []
  none_after f fails xs ns rs = filter-none f xs (λ k d inside. fails (get_or xs k d) (ns k d inside) (rs k d inside))

  last_apart : (xs : List X) → All N xs → AllPairs R xs → Contains xs x → filter p xs ≡ filter q xs ++ x ∷ []
  last_apart [] ns pairs (k, within, at) = absurd (omega (arith, within))
  last_apart (y ∷ xs) ns pairs (zero, within, at) =
      let later : All (R x) xs = λ k d inside. subst (λ z. R z (get_or xs k d)) at (pairs 0 (suc k) d (omega arith) (omega (arith, inside))) in
      let rest = All-tail N y xs ns in
      let passes : p y ≡ true = ap p at ∙ kept in
      let fails : q y ≡ false = ap q at ∙ left in
      rw (passes, fails, none_after p p_after xs rest later, none_after q q_after xs rest later) (ap (λ z. z ∷ []) at)
  last_apart (y ∷ xs) ns pairs (suc k, within, at) =
      by_test (q y) refl (before y (All-head N y xs ns) (subst (R y) at (pairs 0 (suc k) x (omega arith) within)))
      (last_apart xs (All-tail N y xs ns) (λ i j d less inside. pairs (suc i) (suc j) d (omega (arith, less)) (omega (arith, inside))) (k, omega (arith, within), at))
    where
      by_test : (t : Bool) → q y ≡ t → p y ≡ q y → filter p xs ≡ filter q xs ++ x ∷ [] → filter p (y ∷ xs) ≡ filter q (y ∷ xs) ++ x ∷ []
      by_test true is same rest = let passes : p y ≡ true = same ∙ is in rw (passes, is) (ap (λ more. y ∷ more) rest)
      by_test false is same rest = let fails : p y ≡ false = same ∙ is in rw (fails, is) rest

-- of two networks around one address the one that comes first is the shorter
shorter_first : (a b : Block) → IsNetwork a → IsNetwork b → (address : Address) → IsIn a address → IsIn b address → network_order a b ≡ Less → a.length < b.length
shorter_first a b a_is b_is address in_a in_b first = elim (cases_lt a.length b.length) [
  | inl less ↦ less
  | inr not_less ↦
      let start_a = starts_in a address a_is in_a in
      let start_b = starts_in b address b_is in_b in
      let least = fewer_first address.bits (address.width - b.length) (address.width - a.length) (omega (arith, not_less)) in
      let later : is_ge (network_order a b) ≡ true = down_place a b (length_small a a_is) (length_small b b_is) (sym in_a.widths ∙ in_b.widths) (omega (arith, start_a, start_b, least, not_less)) in
      let wrong : is_ge Less ≡ true = ap is_ge (sym first) ∙ later in
      absurd (cc)
]

module _ {V : Type 0} (routes : List (Block × V)) where
  -- where no route covers the network none is found
  pub none_around : (network : Block) → NoneCovers routes network → covering network routes ≡ []
  none_around network none = ap reverse (filter-none (λ route. covers route.0 network) routes none)

  module _ (ordered : AreInOrder routes) (are : All (λ route. IsNetwork route.0) routes) (address : Address) (most : ℕ) (route : Block × V) (longest : IsLongestOver routes (record { address = address; length = most }) route) where
    is : IsNetwork route.0
    is = All-contains (λ r. IsNetwork r.0) routes route are longest.listed

    over : IsOver route.0 address most
    over = is-over route.0 address most longest.matches

    -- a network, no longer than the longest where it covers the first bits
    record IsOther (other : Block × V) : Type 0 where
      is_network : IsNetwork other.0
      no_longer : covers other.0 (record { address = address; length = most }) ≡ true → other.0.length ≤ route.0.length

    others : All IsOther routes
    others k d inside = record { is_network = are k d inside; no_longer = longest.longest k d inside }

    after : (other : Block × V) → IsOther other → network_order route.0 other.0 ≡ Less → covers other.0 (record { address = address; length = most }) ≡ false
    after other other_is first = false_from_ne_true (covers other.0 (record { address = address; length = most })) (λ test.
        let shorter = shorter_first route.0 other.0 is other_is.is_network address over.in_it (is-over other.0 address most test).in_it first in
        absurd (omega (arith, shorter, other_is.no_longer test)))

    -- behind the longest come those that are shorter
    pub around_shorter : 0 < route.0.length → covering (record { address = address; length = most }) routes ≡ route ∷ covering (record { address = address; length = route.0.length - 1 }) routes
    around_shorter some =
        ap reverse
        (last_apart (λ a b. network_order a.0 b.0 ≡ Less) IsOther (λ r. covers r.0 (record { address = address; length = most })) (λ r. covers r.0 (record { address = address; length = less })) route longest.matches
        (false_from_ne_true (covers route.0 (record { address = address; length = less })) (λ test. absurd (omega (arith, (is-over route.0 address less test).shorter, some))))
        (λ other other_is first.
        same_tests (covers other.0 (record { address = address; length = most })) (covers other.0 (record { address = address; length = less }))
        (λ test.
        let in_it = (is-over other.0 address most test).in_it in
        let shorter = shorter_first other.0 route.0 other_is.is_network is address in_it over.in_it first in
        over-is other.0 address less (record { in_it = in_it; shorter = omega (arith, shorter) }))
        (λ test.
        let it = is-over other.0 address less test in
        over-is other.0 address most (record { in_it = it.in_it; shorter = omega (arith, it.shorter, over.shorter) })))
        after
        (λ other other_is first. false_from_ne_true (covers other.0 (record { address = address; length = less })) (λ test.
        let it = is-over other.0 address less test in
        let shorter = shorter_first route.0 other.0 is other_is.is_network address over.in_it it.in_it first in
        absurd (omega (arith, shorter, it.shorter))))
        routes others ordered longest.listed)
        ∙ reverse-append (filter (λ r. covers r.0 (record { address = address; length = less })) routes) (route ∷ [])
      where
        less : ℕ
        less = route.0.length - 1

    -- behind one of length zero comes none
    pub around_last : route.0.length ≡ 0 → covering (record { address = address; length = most }) routes ≡ route ∷ []
    around_last none =
        ap reverse
        (last_apart (λ a b. network_order a.0 b.0 ≡ Less) IsOther (λ r. covers r.0 (record { address = address; length = most })) (λ r. false) route longest.matches refl
        (λ other other_is first. false_from_ne_true (covers other.0 (record { address = address; length = most })) (λ test.
        let shorter = shorter_first other.0 route.0 other_is.is_network is address (is-over other.0 address most test).in_it over.in_it first in
        absurd (omega (arith, shorter, none))))
        after (λ other other_is first. refl) routes others ordered longest.listed
        ∙ ap (λ rest. rest ++ route ∷ []) (filter-none (λ r. false) routes (λ k d inside. refl)))

    -- what is left when the longest was taken
    pub around_left : (left : Option ℕ) → SomeIff left (1 ≤ route.0.length) (route.0.length - 1) → covering (record { address = address; length = most }) routes ≡ route ∷ covering_left address left routes
    around_left None none = elim (cases_lt 0 route.0.length) [
      | inl some ↦ absurd (none (omega (arith, some)))
      | inr not_some ↦ around_last (omega (arith, not_some))
    ]
    around_left (Some less) (some, same) = around_shorter (omega (arith, some)) ∙ ap (λ n. route ∷ covering (record { address = address; length = n }) routes) (sym same)
