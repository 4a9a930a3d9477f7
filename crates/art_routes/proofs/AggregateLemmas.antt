-- Matches stay alike where a route with the value of its parent goes, and where a network gets a route both of whose halves have one.
use Rattle.std.proofs.Common.{◌≡◌, ◌≢◌, ◌∙◌, ◌⊎◌, inl, inr, ℕ, suc, ◌-◌, ◌^◌, ◌<◌, ◌≤◌, Bool, true, false, not, cond, List, [], ◌∷◌, length, All, AllPairs, Contains, filter, get_or, refl, sym, ap, subst, arith, Some, None, Option}
use Rattle.std.specs.Prelude.{Err, Ok, OnErr, Result, nat_lt}
use Rattle.std.specs.Ordering.{is_eq, is_gt, match_ordering}
use Rattle.std.specs.declared.cmp.Ordering.{Ordering}
use Rattle.std.specs.declared.cmp.Ordering.TheVariants.{Less, Equal, Greater}
use Rattle.std.proofs.lemmas.Bool.{and_from, and_parts, cases_lt, false_from_ne_true, lt-ltb, ltb-true, not_from_false}
use Rattle.std.proofs.lemmas.List.Kept.{AllPairs-filter}
use Rattle.std.proofs.lemmas.List.Elements.{All-cons, All-contains, All-nil, Contains-get_or, filter_passes}
use Rattle.std.proofs.Math.Nat.{pow-le-pow_right}
use Rattle.std.proofs.lemmas.List.{get_or_default}
use Rattle.art_routes.specs.declared.address.Address.{Address}
use Rattle.art_routes.specs.AggregateSteps.{FewerOr, IsCovered, IsHalf, NeededUpTo, SaysOfHalf, SaysOfParent, left_behind}
use Rattle.art_routes.specs.Aggregates.{AreAlike, AreHalves, IsAggregated, IsNeeded, MatchAlike}
use Rattle.art_routes.specs.Networks.{Block, IsNetwork, contains, covers, is_around, network_order}
use Rattle.art_routes.specs.Tables.{AreInOrder, IsLongest, IsParent, NoneAround, NoneContains, behind, put_route, route_value, without_route}
use Rattle.art_routes.proofs.CallLaws.{same_network, tied, ties_itself}
use Rattle.art_routes.proofs.ChangeLemmas.{turned}
use Rattle.art_routes.proofs.CoverLemmas.{in-is, is-over}
use Rattle.art_routes.proofs.HalfLemmas.{contains-up, in-half, nested, one-left, one-length}
use Rattle.art_routes.proofs.OrderLemmas.{behind-rank, length_small, rank}
use Rattle.art_routes.specs.KeyLaws.{width_most}
use Rattle.art_routes.proofs.PartLemmas.{around-covers, contains-kept, head-or-rest, kept-contains}

-- what stands where memory is refused
pub err-is : {T E : Type 0} {A : Type 0} (result : Result T E) → A → OnErr result A
err-is (Ok done) a = tt
err-is (Err fault) a = a

-- ---- places in the order of networks
abbrev pub places_left : Option Block → ℕ
places_left None = 2 ^ 146
places_left (Some network) = 2 ^ 146 - suc (rank network)

abbrev pub IsPlace : Option Block → Type 0
IsPlace None = Unit {0}
IsPlace (Some network) = IsNetwork network

rank-most : (network : Block) → IsNetwork network → rank network < 2 ^ 146
rank-most network is =
    let bits : 2 ^ network.address.width ≤ 2 ^ 128 = pow-le-pow_right {n = 2} (omega arith) {i = network.address.width} {j = 128} (width_most network is) in
    let under = is.bits in
    omega (arith, bits, under, width_most network is, length_small network is)

-- ---- lists of routes
module _ {V : Type 0} where
  all-kept : (P : Block × V → Type 0) (p : Block × V → Bool) (routes : List (Block × V)) → All P routes → All P (filter p routes)
  all-kept P p routes all = λ k d inside.
      let route = get_or (filter p routes) k d in
      All-contains P routes route all (contains-kept p routes route (Contains-get_or (filter p routes) k d inside))

  -- some route that contains the address is the longest, or none does
  pub longest-or-none : (routes : List (Block × V)) (address : Address) → NoneContains routes address ⊎ ((route : Block × V) × IsLongest routes address route)
  longest-or-none [] address = inl (All-nil (λ (route : Block × V). contains route.0 address ≡ false))
  longest-or-none (route ∷ routes) address = by_test (contains route.0 address) refl (longest-or-none routes address)
    where
      behind : (other : Block × V) → Contains routes other → Contains (route ∷ routes) other
      behind other (k, within, at) = (suc k, omega (arith, within), at)

      longer : (other : Block × V) → IsLongest routes address other → contains route.0 address ≡ true → (other.0.length < route.0.length) ⊎ (route.0.length ≤ other.0.length)
          → NoneContains (route ∷ routes) address ⊎ ((route' : Block × V) × IsLongest (route ∷ routes) address route')
      longer other is at (inl less) = inr (
        route,
        record {
          listed = (0, omega arith, refl);
          matches = at;
          longest = All-cons (λ (o : Block × V). contains o.0 address ≡ true → o.0.length ≤ route.0.length) route routes (λ _. omega arith)
              (λ k d inside test. let most = is.longest k d inside test in omega (arith, most, less));
        },
      )
      longer other is at (inr no_less) = inr (
        other,
        record {
          listed = behind other is.listed;
          matches = is.matches;
          longest = All-cons (λ (o : Block × V). contains o.0 address ≡ true → o.0.length ≤ other.0.length) route routes (λ _. omega (arith, no_less)) is.longest;
        },
      )

      by_test : (t : Bool) → contains route.0 address ≡ t → NoneContains routes address ⊎ ((other : Block × V) × IsLongest routes address other)
          → NoneContains (route ∷ routes) address ⊎ ((other : Block × V) × IsLongest (route ∷ routes) address other)
      by_test false at (inl none) = inl (All-cons (λ (o : Block × V). contains o.0 address ≡ false) route routes at none)
      by_test false at (inr (other, is)) = inr (
        other,
        record {
          listed = behind other is.listed;
          matches = is.matches;
          longest = All-cons (λ (o : Block × V). contains o.0 address ≡ true → o.0.length ≤ other.0.length) route routes
              (λ test. let wrong : true ≡ false = sym test ∙ at in absurd (cc)) is.longest;
        },
      )
      by_test true at (inl none) = inr (
        route,
        record {
          listed = (0, omega arith, refl);
          matches = at;
          longest = All-cons (λ (o : Block × V). contains o.0 address ≡ true → o.0.length ≤ route.0.length) route routes (λ _. omega arith)
              (λ k d inside test. let wrong : true ≡ false = sym test ∙ none k d inside in absurd (cc));
        },
      )
      by_test true at (inr (other, is)) = longer other is at (cases_lt other.0.length route.0.length)

  -- of routes in order one is to a network
  one-route : (routes : List (Block × V)) → AreInOrder routes → (a b : Block × V) → Contains routes a → Contains routes b → a.0 ≡ b.0 → a ≡ b
  one-route routes ordered a b (i, within, at) (j, inside, there) same = by_side (cases_lt i j) (cases_lt j i)
    where
      wrong-way : (x y : Block × V) → network_order x.0 y.0 ≡ Less → x.0 ≡ y.0 → ⊥
      wrong-way x y less one =
          let wrong : Less ≡ Equal = sym less ∙ ap (λ n. network_order n y.0) one ∙ ties_itself y.0 in
          absurd (cc)

      by_side : (i < j) ⊎ (j ≤ i) → (j < i) ⊎ (i ≤ j) → a ≡ b
      by_side (inl less) other = absurd (wrong-way a b (subst (λ (y : Block × V). network_order a.0 y.0 ≡ Less) there (subst (λ (x : Block × V). network_order x.0 (get_or routes j b).0 ≡ Less) (index a b at) (ordered i j b less inside))) same)
        where
          index : (d e : Block × V) → get_or routes i d ≡ a → get_or routes i e ≡ a
          index d e is = sym (get_or_default routes i d e within) ∙ is
      by_side (inr not_less) (inl greater) = absurd (wrong-way b a (subst (λ (y : Block × V). network_order b.0 y.0 ≡ Less) at (subst (λ (x : Block × V). network_order x.0 (get_or routes i a).0 ≡ Less) (index b a there) (ordered j i a greater within))) (sym same))
        where
          index : (d e : Block × V) → get_or routes j d ≡ b → get_or routes j e ≡ b
          index d e is = sym (get_or_default routes j d e inside) ∙ is
      by_side (inr not_less) (inr not_greater) =
          let places : i ≡ j = omega (arith, not_less, not_greater) in
          sym at ∙ get_or_default routes i a b within ∙ ap (λ k. get_or routes k b) places ∙ there

  -- what is among the routes once one is put: that one, or another that was there
  put-has : (routes : List (Block × V)) (network : Block) (value : V) (route : Block × V) → Contains (put_route routes network value) route → (route ≡ (network, value)) ⊎ Contains routes route
  put-has [] network value route there = by_side (head-or-rest (network, value) [] route there)
    where
      by_side : ((network, value) ≡ route) ⊎ Contains [] route → (route ≡ (network, value)) ⊎ Contains [] route
      by_side (inl same) = inl (sym same)
      by_side (inr more) = inr more
  put-has (other ∷ routes) network value route there = by_order (network_order network other.0) there (put-has routes network value route)
    where
      first : (rest : List (Block × V)) → Contains ((network, value) ∷ rest) route → (Contains rest route → Contains (other ∷ routes) route) → (route ≡ (network, value)) ⊎ Contains (other ∷ routes) route
      first rest has go = by_side (head-or-rest (network, value) rest route has)
        where
          by_side : ((network, value) ≡ route) ⊎ Contains rest route → (route ≡ (network, value)) ⊎ Contains (other ∷ routes) route
          by_side (inl same) = inl (sym same)
          by_side (inr more) = inr (go more)

      behind : Contains routes route → Contains (other ∷ routes) route
      behind (k, within, at) = (suc k, omega (arith, within), at)

      by_order : (o : Ordering) → Contains (match_ordering o ((network, value) ∷ other ∷ routes) ((network, value) ∷ routes) (other ∷ put_route routes network value)) route
          → (Contains (put_route routes network value) route → (route ≡ (network, value)) ⊎ Contains routes route) → (route ≡ (network, value)) ⊎ Contains (other ∷ routes) route
      by_order Less has rest = first (other ∷ routes) has (λ more. more)
      by_order Equal has rest = first routes has behind
      by_order Greater has rest = by_side (head-or-rest other (put_route routes network value) route has)
        where
          further : (route ≡ (network, value)) ⊎ Contains routes route → (route ≡ (network, value)) ⊎ Contains (other ∷ routes) route
          further (inl same) = inl same
          further (inr more) = inr (behind more)

          by_side : (other ≡ route) ⊎ Contains (put_route routes network value) route → (route ≡ (network, value)) ⊎ Contains (other ∷ routes) route
          by_side (inl same) = inr (0, omega arith, same)
          by_side (inr more) = further (rest more)

  -- a route to another network stays
  put-keeps : (routes : List (Block × V)) (network : Block) (value : V) (route : Block × V) → Contains routes route → route.0 ≢ network → Contains (put_route routes network value) route
  put-keeps [] network value route (k, within, at) apart = absurd (omega (arith, within))
  put-keeps (other ∷ routes) network value route there apart = by_order (network_order network other.0) refl (head-or-rest other routes route there) (λ more. put-keeps routes network value route more apart)
    where
      behind : (x : Block × V) (rest : List (Block × V)) → Contains rest route → Contains (x ∷ rest) route
      behind x rest (k, within, at) = (suc k, omega (arith, within), at)

      by_order : (o : Ordering) → network_order network other.0 ≡ o → (other ≡ route) ⊎ Contains routes route → (Contains routes route → Contains (put_route routes network value) route)
          → Contains (match_ordering o ((network, value) ∷ other ∷ routes) ((network, value) ∷ routes) (other ∷ put_route routes network value)) route
      by_order Less is side rest = behind (network, value) (other ∷ routes) there
      by_order Equal is (inl same) rest = absurd (apart (sym (ap (λ (r : Block × V). r.0) same) ∙ sym (same_network network other.0 is)))
      by_order Equal is (inr more) rest = behind (network, value) routes more
      by_order Greater is (inl same) rest = (0, omega arith, same)
      by_order Greater is (inr more) rest = behind other (put_route routes network value) (rest more)

  put-first : (routes : List (Block × V)) (network : Block) (value : V) → Contains (put_route routes network value) (network, value)
  put-first [] network value = (0, omega arith, refl)
  put-first (other ∷ routes) network value = by_order (network_order network other.0) (put-first routes network value)
    where
      by_order : (o : Ordering) → Contains (put_route routes network value) (network, value) → Contains (match_ordering o ((network, value) ∷ other ∷ routes) ((network, value) ∷ routes) (other ∷ put_route routes network value)) (network, value)
      by_order Less rest = (0, omega arith, refl)
      by_order Equal rest = (0, omega arith, refl)
      by_order Greater (k, within, at) = (suc k, omega (arith, within), at)

  module _ (eq : V → V → Bool) (routes : List (Block × V)) (ordered : AreInOrder routes) (are : All (λ route. IsNetwork route.0) routes) (address : Address) where
    is-listed : (route : Block × V) → Contains routes route → IsNetwork route.0
    is-listed route there = All-contains (λ r. IsNetwork r.0) routes route are there

    -- a route goes that has the value of its parent
    module _ (gone parent : Block × V) (there : Contains routes gone) (above : IsParent routes gone.0 parent) (alike : AreAlike eq gone.1 parent.1) where
      abbrev kept : Block × V → Bool
      kept route = not (is_eq (network_order route.0 gone.0))

      stays : (route : Block × V) → route.0 ≢ gone.0 → kept route ≡ true
      stays route apart = by_test (is_eq (network_order route.0 gone.0)) refl
        where
          by_test : (t : Bool) → is_eq (network_order route.0 gone.0) ≡ t → not t ≡ true
          by_test true at = absurd (apart (same_network route.0 gone.0 (tied (network_order route.0 gone.0) at)))
          by_test false at = refl

      parent-length : parent.0.length < gone.0.length
      parent-length = ltb-true parent.0.length gone.0.length (and_parts (covers parent.0 gone.0) (nat_lt parent.0.length gone.0.length) above.around).1

      parent-matches : contains gone.0 address ≡ true → contains parent.0 address ≡ true
      parent-matches inside = contains-up address parent.0 gone.0 (is-listed gone there) (around-covers parent.0 gone.0 above.around) inside

      parent-longest : IsLongest routes address gone → IsLongest (without_route routes gone.0) address parent
      parent-longest is = record {
        listed = kept-contains kept routes parent above.listed (stays parent (λ same. let wrong = ap (λ (n : Block). n.length) same in omega (arith, wrong, parent-length)));
        matches = parent-matches is.matches;
        longest = λ k d inside test.
            let other = get_or (without_route routes gone.0) k d in
            let has = Contains-get_or (without_route routes gone.0) k d inside in
            let listed = contains-kept kept routes other has in
            let passes : kept other ≡ true = All-contains (λ r. kept r ≡ true) (without_route routes gone.0) other (filter_passes kept routes) has in
            let most : other.0.length ≤ gone.0.length = All-contains (λ r. contains r.0 address ≡ true → r.0.length ≤ gone.0.length) routes other is.longest listed test in
            by_side other listed passes test (cases_lt other.0.length gone.0.length) most;
      }
        where
          by_side : (other : Block × V) → Contains routes other → kept other ≡ true → contains other.0 address ≡ true → (other.0.length < gone.0.length) ⊎ (gone.0.length ≤ other.0.length) → other.0.length ≤ gone.0.length → other.0.length ≤ parent.0.length
          by_side other listed passes test (inl less) most =
              let over = nested address other.0 gone.0 (is-listed other listed) (is-listed gone there) test is.matches (omega (arith, less)) in
              All-contains (λ r. is_around r.0 gone.0 ≡ true → r.0.length ≤ parent.0.length) routes other above.longest listed
              (and_from (covers other.0 gone.0) (nat_lt other.0.length gone.0.length) over (lt-ltb other.0.length gone.0.length less))
          by_side other listed passes test (inr no_less) most =
              let one = one-length address other.0 gone.0 (is-listed other listed) (is-listed gone there) test is.matches (omega (arith, most, no_less)) in
              let wrong : false ≡ true = sym (ap (λ n. not (is_eq (network_order n gone.0))) one ∙ ap (λ o. not (is_eq o)) (ties_itself gone.0)) ∙ passes in
              absurd (cc)

      pub removed-alike : MatchAlike eq routes (without_route routes gone.0) address
      removed-alike = by_longest (longest-or-none routes address)
        where
          by_test : (route : Block × V) → IsLongest routes address route → (t : Bool) → is_eq (network_order route.0 gone.0) ≡ t → MatchAlike eq routes (without_route routes gone.0) address
          by_test route is true at =
              let one = one-route routes ordered route gone is.listed there (same_network route.0 gone.0 (tied (network_order route.0 gone.0) at)) in
              inr (gone, parent, subst (λ r. IsLongest routes address r) one is, parent-longest (subst (λ r. IsLongest routes address r) one is), alike)
          by_test route is false at = inr (
            route,
            route,
            is,
            record {
              listed = kept-contains kept routes route is.listed (not_from_false (is_eq (network_order route.0 gone.0)) at);
              matches = is.matches;
              longest = all-kept (λ r. contains r.0 address ≡ true → r.0.length ≤ route.0.length) kept routes is.longest;
            },
            inl refl,
          )

          by_longest : NoneContains routes address ⊎ ((route : Block × V) × IsLongest routes address route) → MatchAlike eq routes (without_route routes gone.0) address
          by_longest (inl none) = inl (none, all-kept (λ r. contains r.0 address ≡ false) kept routes none)
          by_longest (inr (route, is)) = by_test route is (is_eq (network_order route.0 gone.0)) refl

    -- a network gets a route both of whose halves have one
    module _ (left right : Block × V) (whole : Block) (value : V) (left_there : Contains routes left) (right_there : Contains routes right) (halves : AreHalves left.0 right.0 whole) where
      half-matches : contains whole address ≡ true → (half : Block × V) × Contains routes half × (contains half.0 address ≡ true) × (half.0.length ≡ suc whole.length)
      half-matches inside = by_side (in-half address left.0 right.0 whole (is-listed left left_there) (is-listed right right_there) halves inside)
        where
          by_side : (contains left.0 address ≡ true) ⊎ (contains right.0 address ≡ true) → (half : Block × V) × Contains routes half × (contains half.0 address ≡ true) × (half.0.length ≡ suc whole.length)
          by_side (inl at) = (left, left_there, at, halves.left_length)
          by_side (inr at) = (right, right_there, at, halves.right_length)

      put-none : NoneContains routes address → NoneContains (put_route routes whole value) address
      put-none none = λ k d inside.
          let other = get_or (put_route routes whole value) k d in
          by_side other (put-has routes whole value other (Contains-get_or (put_route routes whole value) k d inside))
        where
          by_side : (other : Block × V) → (other ≡ (whole, value)) ⊎ Contains routes other → contains other.0 address ≡ false
          by_side other (inl same) = false_from_ne_true (contains other.0 address) (λ test.
              let (half, listed, at, _) = half-matches (ap (λ (r : Block × V). contains r.0 address) (sym same) ∙ test) in
              let wrong : true ≡ false = sym at ∙ All-contains (λ r. contains r.0 address ≡ false) routes half none listed in
              absurd (cc))
          by_side other (inr listed) = All-contains (λ r. contains r.0 address ≡ false) routes other none listed

      put-longest : (route : Block × V) → IsLongest routes address route → IsLongest (put_route routes whole value) address route
      put-longest route is = record {
        listed = put-keeps routes whole value route is.listed (λ same.
            let (half, listed, at, long) = half-matches (ap (λ n. contains n address) (sym same) ∙ is.matches) in
            let most = All-contains (λ r. contains r.0 address ≡ true → r.0.length ≤ route.0.length) routes half is.longest listed at in
            let wrong = ap (λ (n : Block). n.length) same in
            omega (arith, most, long, wrong));
        matches = is.matches;
        longest = λ k d inside test.
            let other = get_or (put_route routes whole value) k d in
            by_side other test (put-has routes whole value other (Contains-get_or (put_route routes whole value) k d inside));
      }
        where
          by_side : (other : Block × V) → contains other.0 address ≡ true → (other ≡ (whole, value)) ⊎ Contains routes other → other.0.length ≤ route.0.length
          by_side other test (inl same) =
              let (half, listed, at, long) = half-matches (ap (λ (r : Block × V). contains r.0 address) (sym same) ∙ test) in
              let most = All-contains (λ r. contains r.0 address ≡ true → r.0.length ≤ route.0.length) routes half is.longest listed at in
              let one = ap (λ (r : Block × V). r.0.length) same in
              omega (arith, most, long, one)
          by_side other test (inr listed) = All-contains (λ r. contains r.0 address ≡ true → r.0.length ≤ route.0.length) routes other is.longest listed test

      pub put-alike : MatchAlike eq routes (put_route routes whole value) address
      put-alike = by_longest (longest-or-none routes address)
        where
          by_longest : NoneContains routes address ⊎ ((route : Block × V) × IsLongest routes address route) → MatchAlike eq routes (put_route routes whole value) address
          by_longest (inl none) = inl (none, put-none none)
          by_longest (inr (route, is)) = inr (route, route, is, put-longest route is, inl refl)

  -- ---- the steps
  module _ (eq : V → V → Bool) where
    pub alike-itself : (routes : List (Block × V)) (address : Address) → MatchAlike eq routes routes address
    alike-itself routes address = by_longest (longest-or-none routes address)
      where
        by_longest : NoneContains routes address ⊎ ((route : Block × V) × IsLongest routes address route) → MatchAlike eq routes routes address
        by_longest (inl none) = inl (none, none)
        by_longest (inr (route, is)) = inr (route, route, is, is, inl refl)

    alike-through : ((x y z : V) → eq x y ≡ true → eq y z ≡ true → eq x z ≡ true) → (a b c : V) → AreAlike eq a b → AreAlike eq b c → AreAlike eq a c
    alike-through through a b c (inl same) other = subst (λ v. AreAlike eq v c) (sym same) other
    alike-through through a b c (inr one) (inl same) = inr (subst (λ v. eq a v ≡ true) same one)
    alike-through through a b c (inr one) (inr two) = inr (through a b c one two)

    module _ (through : (x y z : V) → eq x y ≡ true → eq y z ≡ true → eq x z ≡ true) (first routes last : List (Block × V)) (ordered : AreInOrder routes) (are : All (λ route. IsNetwork route.0) routes) (address : Address) where
      pub alike-trans : MatchAlike eq first routes address → MatchAlike eq routes last address → MatchAlike eq first last address
      alike-trans (inl (none, _)) (inl (_, more)) = inl (none, more)
      alike-trans (inl (none, none_too)) (inr (route, other, is, also, alike)) =
          let wrong : true ≡ false = sym is.matches ∙ All-contains (λ r. contains r.0 address ≡ false) routes route none_too is.listed in
          absurd (cc)
      alike-trans (inr (route, other, is, also, alike)) (inl (none, none_too)) =
          let wrong : true ≡ false = sym also.matches ∙ All-contains (λ r. contains r.0 address ≡ false) routes other none also.listed in
          absurd (cc)
      alike-trans (inr (route, other, is, also, alike)) (inr (middle, end, here, there, next)) =
          let networks = All-contains (λ r. IsNetwork r.0) routes other are also.listed in
          let more = All-contains (λ r. IsNetwork r.0) routes middle are here.listed in
          let up = All-contains (λ r. contains r.0 address ≡ true → r.0.length ≤ middle.0.length) routes other here.longest also.listed also.matches in
          let down = All-contains (λ r. contains r.0 address ≡ true → r.0.length ≤ other.0.length) routes middle also.longest here.listed here.matches in
          let lengths : middle.0.length ≡ other.0.length = omega (arith, up, down) in
          let one = one-route routes ordered middle other here.listed also.listed (one-length address middle.0 other.0 more networks here.matches also.matches lengths) in
          inr (route, end, is, there, alike-through through route.1 other.1 end.1 alike (subst (λ (r : Block × V). AreAlike eq r.1 end.1) one next))

    module _ (routes : List (Block × V)) (ordered : AreInOrder routes) (are : All (λ route. IsNetwork route.0) routes) where
      one-parent : (network : Block) → IsNetwork network → (a b : Block × V) → IsParent routes network a → IsParent routes network b → a ≡ b
      one-parent network is a b of_a of_b =
          let a_is = All-contains (λ r. IsNetwork r.0) routes a are of_a.listed in
          let b_is = All-contains (λ r. IsNetwork r.0) routes b are of_b.listed in
          let up = All-contains (λ r. is_around r.0 network ≡ true → r.0.length ≤ b.0.length) routes a of_b.longest of_a.listed of_a.around in
          let down = All-contains (λ r. is_around r.0 network ≡ true → r.0.length ≤ a.0.length) routes b of_a.longest of_b.listed of_b.around in
          let lengths : a.0.length ≡ b.0.length = omega (arith, up, down) in
          let a_in = in-is a.0 network.address (is-over a.0 network.address network.length (around-covers a.0 network of_a.around)).in_it in
          let b_in = in-is b.0 network.address (is-over b.0 network.address network.length (around-covers b.0 network of_b.around)).in_it in
          one-route routes ordered a b of_a.listed of_b.listed (one-length network.address a.0 b.0 a_is b_is a_in b_in lengths)

      pub says-of-parent : (network : Block) → IsNetwork network → (value : V) (found : Block × V) → IsParent routes network found → (t : Bool) → t ≡ eq value found.1 → SaysOfParent eq routes network value t
      says-of-parent network is value found parent true test = (found, parent, sym test)
      says-of-parent network is value found parent false test = λ other above.
          ap (λ (r : Block × V). eq value r.1) (one-parent network is other found above parent) ∙ sym test

      pub no-parent : (network : Block) (value : V) → NoneAround routes network → SaysOfParent eq routes network value false
      no-parent network value none = λ other above.
          let wrong : true ≡ false = sym above.around ∙ All-contains (λ r. is_around r.0 network ≡ false) routes other none above.listed in
          absurd (cc)

      value-listed : (more : List (Block × V)) (network : Block) (value : V) → route_value more network ≡ Some value → Contains more (network, value)
      value-listed [] network value found = absurd (cc)
      value-listed (route ∷ more) network value found = by_test (is_eq (network_order route.0 network)) refl found (value-listed more network value)
        where
          by_test : (t : Bool) → is_eq (network_order route.0 network) ≡ t → cond t (Some route.1) (route_value more network) ≡ Some value
              → (route_value more network ≡ Some value → Contains more (network, value)) → Contains (route ∷ more) (network, value)
          by_test true at is rest =
              let values : route.1 ≡ value = cc in
              let networks = same_network route.0 network (tied (network_order route.0 network) at) in
              (0, omega arith, λ i. (networks i, values i))
          by_test false at is rest = let (k, within, there) = rest is in (suc k, omega (arith, within), there)

      none-listed : (more : List (Block × V)) (network : Block) → route_value more network ≡ None → (route : Block × V) → Contains more route → route.0 ≡ network → ⊥
      none-listed [] network none route (k, within, at) same = omega (arith, within)
      none-listed (other ∷ more) network none route there same = by_test (is_eq (network_order other.0 network)) refl none (head-or-rest other more route there) (λ rest listed. none-listed more network rest route listed same)
        where
          by_test : (t : Bool) → is_eq (network_order other.0 network) ≡ t → cond t (Some other.1) (route_value more network) ≡ None → (other ≡ route) ⊎ Contains more route
              → (route_value more network ≡ None → Contains more route → ⊥) → ⊥
          by_test true at is side rest = absurd (cc)
          by_test false at is (inl one) rest =
              let wrong : true ≡ false = sym (ap (λ n. is_eq (network_order n network)) (ap (λ (r : Block × V). r.0) one ∙ same) ∙ ap is_eq (ties_itself network)) ∙ at in
              absurd (cc)
          by_test false at is (inr listed) rest = rest is listed

      -- what is said of the left half
      module _ (network : Block) (is : IsNetwork network) (value : V) where
        listed-is : (left : Block × V) → Contains routes left → IsNetwork left.0
        listed-is left there = All-contains (λ r. IsNetwork r.0) routes left are there

        pub no-half : IsHalf network None → SaysOfHalf eq routes network value None
        no-half none = λ left whole there halves. absurd (none left.0 whole (listed-is left there) halves)

        pub half-absent : (left whole : Block) → IsHalf network (Some (left, whole)) → route_value routes left ≡ None → SaysOfHalf eq routes network value None
        half-absent left whole (left_is, halves) none = λ other around there also.
            absurd (none-listed routes left none other there (one-left other.0 left network around whole (listed-is other there) left_is is also halves))

        pub half-differs : (left whole : Block) (found : V) → IsHalf network (Some (left, whole)) → route_value routes left ≡ Some found → eq found value ≡ false → SaysOfHalf eq routes network value None
        half-differs left whole found (left_is, halves) at differs = λ other around there also.
            let same = one-left other.0 left network around whole (listed-is other there) left_is is also halves in
            let one = one-route routes ordered other (left, found) there (value-listed routes left found at) same in
            ap (λ (r : Block × V). eq r.1 value) one ∙ differs

        pub half-equal : (left whole : Block) (found : V) → IsHalf network (Some (left, whole)) → route_value routes left ≡ Some found → eq found value ≡ true → SaysOfHalf eq routes network value (Some (left, whole))
        half-equal left whole found (left_is, halves) at test = (found, value-listed routes left found at, halves, test)

    -- one route fewer
    filter-fewer : (p : Block × V → Bool) (routes : List (Block × V)) → length (filter p routes) ≤ length routes
    filter-fewer p [] = omega arith
    filter-fewer p (route ∷ routes) = by_test (p route) (filter-fewer p routes)
      where
        by_test : (t : Bool) → length (filter p routes) ≤ length routes → length (cond t (route ∷ filter p routes) (filter p routes)) ≤ suc (length routes)
        by_test true less = omega (arith, less)
        by_test false less = omega (arith, less)

    kept-apart : (network other : Block) → other ≢ network → not (is_eq (network_order other network)) ≡ true
    kept-apart network other apart = by_test (is_eq (network_order other network)) refl
      where
        by_test : (t : Bool) → is_eq (network_order other network) ≡ t → not t ≡ true
        by_test true at = absurd (apart (same_network other network (tied (network_order other network) at)))
        by_test false at = refl

    abbrev apart-from : Block → Block × V → Bool
    apart-from network route = not (is_eq (network_order route.0 network))

    pub without-fewer : (routes : List (Block × V)) (network : Block) (route : Block × V) → Contains routes route → route.0 ≡ network → length (without_route routes network) < length routes
    without-fewer [] network route (k, within, at) same = absurd (omega (arith, within))
    without-fewer (other ∷ routes) network route there same = by_side (head-or-rest other routes route there) (λ more. without-fewer routes network route more same)
      where
        by_test : (t : Bool) → length (filter (apart-from network) routes) < length routes → length (cond t (other ∷ filter (apart-from network) routes) (filter (apart-from network) routes)) < suc (length routes)
        by_test true less = omega (arith, less)
        by_test false less = omega (arith, less)

        by_side : (other ≡ route) ⊎ Contains routes route → (Contains routes route → length (filter (apart-from network) routes) < length routes) → length (without_route (other ∷ routes) network) < length (other ∷ routes)
        by_side (inl one) rest =
            let gone : apart-from network other ≡ false = ap (apart-from network) one ∙ ap (λ n. not (is_eq (network_order n network))) same ∙ ap (λ o. not (is_eq o)) (ties_itself network) in
            let is : length (without_route (other ∷ routes) network) ≡ length (filter (apart-from network) routes) = ap (λ t. length (cond t (other ∷ filter (apart-from network) routes) (filter (apart-from network) routes))) gone in
            omega (arith, is, filter-fewer (apart-from network) routes)
        by_side (inr more) rest = by_test (apart-from network other) (rest more)

    pub put-more : (routes : List (Block × V)) (network : Block) (value : V) → length (put_route routes network value) ≤ suc (length routes)
    put-more [] network value = omega arith
    put-more (other ∷ routes) network value = by_order (network_order network other.0) (put-more routes network value)
      where
        by_order : (o : Ordering) → length (put_route routes network value) ≤ suc (length routes)
            → length (match_ordering o ((network, value) ∷ other ∷ routes) ((network, value) ∷ routes) (other ∷ put_route routes network value)) ≤ suc (suc (length routes))
        by_order Less rest = omega arith
        by_order Equal rest = omega arith
        by_order Greater rest = omega (arith, rest)

    -- the longest route around a half is that to the whole
    pub whole-parent : (routes : List (Block × V)) (value : V) (part whole : Block) → Contains routes (whole, value) → covers whole part ≡ true → part.length ≡ suc whole.length → IsParent routes part (whole, value)
    whole-parent routes value part whole there inside long = record {
      listed = there;
      around = and_from (covers whole part) (nat_lt whole.length part.length) inside (lt-ltb whole.length part.length (omega (arith, long)));
      longest = λ k d within test.
          let other = get_or routes k d in
          let less = ltb-true other.0.length part.length (and_parts (covers other.0 part) (nat_lt other.0.length part.length) test).1 in
          omega (arith, less, long);
    }

    -- once the whole has a route, both halves are covered
    module _ (routes : List (Block × V)) (left right whole : Block) (other value : V) (left_there : Contains routes (left, other)) (right_there : Contains routes (right, value)) (halves : AreHalves left right whole) where
      left-apart : left ≢ whole
      left-apart same = let wrong = ap (λ (n : Block). n.length) same in omega (arith, wrong, halves.left_length)

      right-apart : right ≢ whole
      right-apart same = let wrong = ap (λ (n : Block). n.length) same in omega (arith, wrong, halves.right_length)

      halves-apart : right ≢ left
      halves-apart same = let wrong = ap (λ (n : Block). n.address.bits) same in omega (arith, wrong, halves.before)

      pub left-covered : (more : List (Block × V)) → more ≡ put_route routes whole value → eq other value ≡ true → IsCovered eq more left
      left-covered more is same =
          let there = subst (λ rs. Contains rs (left, other)) (sym is) (put-keeps routes whole value (left, other) left_there left-apart) in
          let whole_there = subst (λ rs. Contains rs (whole, value)) (sym is) (put-first routes whole value) in
          (other, (whole, value), there, whole-parent more value left whole whole_there halves.left_inside halves.left_length, inr same)

      pub right-covered : (more : List (Block × V)) → more ≡ without_route (put_route routes whole value) left → IsCovered eq more right
      right-covered more is =
          let put = put_route routes whole value in
          let there = subst (λ rs. Contains rs (right, value)) (sym is) (kept-contains (apart-from left) put (right, value) (put-keeps routes whole value (right, value) right_there right-apart) (kept-apart left right halves-apart)) in
          let whole_there = subst (λ rs. Contains rs (whole, value)) (sym is) (kept-contains (apart-from left) put (whole, value) (put-first routes whole value) (kept-apart left whole (λ same. left-apart (sym same)))) in
          (value, (whole, value), there, whole-parent more value right whole whole_there halves.right_inside halves.right_length, inl refl)

    -- ---- a pass
    module _ (routes : List (Block × V)) (ordered : AreInOrder routes) (after : Option Block) (route : Block × V) (rest : List (Block × V)) (next : left_behind after routes ≡ route ∷ rest) where
      left-ordered : AreInOrder (left_behind after routes)
      left-ordered = by_after after
        where
          by_after : (from : Option Block) → AreInOrder (left_behind from routes)
          by_after None = ordered
          by_after (Some network) = AllPairs-filter (λ a b. network_order a.0 b.0 ≡ Less) (λ r. is_gt (network_order r.0 network)) routes ordered

      left-listed : (other : Block × V) → Contains (left_behind after routes) other → Contains routes other
      left-listed other there = by_after after there
        where
          by_after : (from : Option Block) → Contains (left_behind from routes) other → Contains routes other
          by_after None is = is
          by_after (Some network) is = contains-kept (λ r. is_gt (network_order r.0 network)) routes other is

      pub next-listed : Contains routes route
      next-listed = left-listed route (subst (λ rs. Contains rs route) (sym next) (0, omega arith, refl))

      rest-behind : (other : Block × V) → Contains rest other → Contains (behind route.0 routes) other
      rest-behind other (k, within, at) =
          let listed = left-listed other (subst (λ rs. Contains rs other) (sym next) (suc k, omega (arith, within), at)) in
          let pairs : AllPairs (λ a b. network_order a.0 b.0 ≡ Less) (route ∷ rest) = subst (λ rs. AllPairs (λ a b. network_order a.0 b.0 ≡ Less) rs) next left-ordered in
          let less : network_order route.0 other.0 ≡ Less = subst (λ (o : Block × V). network_order route.0 o.0 ≡ Less) at (pairs 0 (suc k) other (omega arith) (omega (arith, within))) in
          kept-contains (λ r. is_gt (network_order r.0 route.0)) routes other listed (ap is_gt (turned route.0 other.0 less))

      pub needed-on : NeededUpTo eq routes after → IsNeeded eq routes route → NeededUpTo eq routes (Some route.0)
      needed-on up_to needed = λ other listed. by_side other (up_to other listed)
        where
          by_place : (other : Block × V) → (route ≡ other) ⊎ Contains rest other → IsNeeded eq routes other ⊎ Contains (behind route.0 routes) other
          by_place other (inl same) = inl (subst (λ (r : Block × V). IsNeeded eq routes r) same needed)
          by_place other (inr there) = inr (rest-behind other there)

          by_side : (other : Block × V) → IsNeeded eq routes other ⊎ Contains (left_behind after routes) other → IsNeeded eq routes other ⊎ Contains (behind route.0 routes) other
          by_side other (inl is) = inl is
          by_side other (inr there) = by_place other (head-or-rest route rest other (subst (λ rs. Contains rs other) next there))

      -- each step of a pass goes on behind the route
      pub nearer : All (λ r. IsNetwork r.0) routes → IsPlace after → places_left (Some route.0) < places_left after
      nearer are place = by_after after place (subst (λ rs. Contains rs route) (sym next) (0, omega arith, refl))
        where
          route_is : IsNetwork route.0
          route_is = All-contains (λ r. IsNetwork r.0) routes route are next-listed

          by_after : (from : Option Block) → IsPlace from → Contains (left_behind from routes) route → places_left (Some route.0) < places_left from
          by_after None is there = omega arith
          by_after (Some network) is there =
              let test = All-contains (λ r. is_gt (network_order r.0 network) ≡ true) (behind network routes) route (filter_passes (λ r. is_gt (network_order r.0 network)) routes) there in
              let up = behind-rank route.0 network route_is is test in
              omega (arith, up, rank-most route.0 route_is)

    -- a step of a pass, after those before
    pub pass-on : (first routes last : List (Block × V)) (after : Option Block) (route : Block × V) → FewerOr first routes (λ rs. NeededUpTo eq rs after)
        → (NeededUpTo eq routes after → IsNeeded eq routes route → NeededUpTo eq routes (Some route.0))
        → FewerOr routes last (λ rs. IsNeeded eq rs route) → FewerOr first last (λ rs. NeededUpTo eq rs (Some route.0))
    pass-on first routes last after route (inl less) on (inl fewer) = inl (omega (arith, less, fewer))
    pass-on first routes last after route (inl less) on (inr (same, needed)) = inl (omega (arith, less, ap (λ (rs : List (Block × V)). length rs) same))
    pass-on first routes last after route (inr (is, up_to)) on (inl fewer) = inl (omega (arith, fewer, ap (λ (rs : List (Block × V)). length rs) is))
    pass-on first routes last after route (inr (is, up_to)) on (inr (same, needed)) = inr (same ∙ is, subst (λ rs. NeededUpTo eq rs (Some route.0)) is (on (subst (λ rs. NeededUpTo eq rs after) (sym is) up_to) needed))

    pub pass-ends : (first routes : List (Block × V)) (after : Option Block) → FewerOr first routes (λ rs. NeededUpTo eq rs after) → left_behind after routes ≡ [] → FewerOr first routes (λ rs. IsAggregated eq rs)
    pass-ends first routes after (inl less) none = inl less
    pass-ends first routes after (inr (same, up_to)) none = inr (same, λ route listed. by_side route (up_to route listed))
      where
        by_side : (route : Block × V) → IsNeeded eq first route ⊎ Contains (left_behind after first) route → IsNeeded eq first route
        by_side route (inl is) = is
        by_side route (inr there) = let (k, within, at) = subst (λ rs. Contains rs route) none (subst (λ rs. Contains (left_behind after rs) route) (sym same) there) in absurd (omega (arith, within))

    -- no parent and no half has the value of the route
    pub is-needed : (routes : List (Block × V)) (network : Block) (value : V) → SaysOfParent eq routes network value false → SaysOfHalf eq routes network value None → IsNeeded eq routes (network, value)
    is-needed routes network value parent half = record { parent_differs = parent; half_differs = half }
