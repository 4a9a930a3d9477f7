-- The value of the route to a network, from the longest route that covers it.
use Rattle.std.proofs.Common.{◌≡◌, ◌∙◌, ℕ, zero, suc, ◌≤◌, true, false, List, [], ◌∷◌, All, Contains, None, Some, get_or, refl, sym, ap, subst, arith}
use Rattle.std.specs.Ordering.{is_eq}
use Rattle.std.specs.declared.cmp.Ordering.TheVariants.{Less}
use Rattle.std.proofs.lemmas.Bool.{false_from_ne_true}
use Rattle.std.proofs.lemmas.List.Elements.{All-contains, All-head, All-tail}
use Rattle.art_routes.specs.declared.address.Address.{Address}
use Rattle.art_routes.specs.Networks.{Block, IsNetwork, covers, network_order}
use Rattle.art_routes.specs.Tables.{AreInOrder, IsLongestOver, NoneCovers, route_value}
use Rattle.art_routes.proofs.CallLaws.{same_network, tied, ties_itself}
use Rattle.art_routes.proofs.CoverLemmas.{is-over}
use Rattle.art_routes.proofs.PartLemmas.{covers-itself, same-by-length}

module _ {V : Type 0} (network : Block) where
  -- no route is to it
  abbrev pub NoneTo : List (Block × V) → Type 0
  NoneTo routes = All (λ route. is_eq (network_order route.0 network) ≡ false) routes

  pub none-to : (routes : List (Block × V)) → NoneTo routes → route_value routes network ≡ None
  none-to [] differ = refl
  none-to (route ∷ routes) differ =
      let first = All-head (λ (r : Block × V). is_eq (network_order r.0 network) ≡ false) route routes differ in
      rw first (none-to routes (All-tail (λ (r : Block × V). is_eq (network_order r.0 network) ≡ false) route routes differ))

  -- the route to it has the value
  pub one-to : (routes : List (Block × V)) → AreInOrder routes → (route : Block × V) → Contains routes route → route.0 ≡ network → route_value routes network ≡ Some route.1
  one-to [] ordered route (k, within, at) same = absurd (omega (arith, within))
  one-to (first ∷ routes) ordered route (zero, within, at) same =
      let it : is_eq (network_order first.0 network) ≡ true = ap (λ (r : Block × V). is_eq (network_order r.0 network)) at ∙ ap (λ n. is_eq (network_order n network)) same ∙ ap is_eq (ties_itself network) in
      rw it (ap (λ (r : Block × V). Some r.1) at)
  one-to (first ∷ routes) ordered route (suc k, within, at) same =
      let less : network_order first.0 route.0 ≡ Less = subst (λ (r : Block × V). network_order first.0 r.0 ≡ Less) at (ordered 0 (suc k) route (omega arith) within) in
      let it : is_eq (network_order first.0 network) ≡ false = ap (λ n. is_eq (network_order first.0 n)) (sym same) ∙ ap is_eq less in
      rw it (one-to routes (λ i j d less inside. ordered (suc i) (suc j) d (omega (arith, less)) (omega (arith, inside))) route (k, omega (arith, within), at) same)

  module _ (routes : List (Block × V)) (ordered : AreInOrder routes) (are : All (λ route. IsNetwork route.0) routes) (is : IsNetwork network) where
    none-covers : NoneCovers routes network → NoneTo routes
    none-covers none k d inside = false_from_ne_true (is_eq (network_order (get_or routes k d).0 network)) (λ test.
        let same = same_network (get_or routes k d).0 network (tied (network_order (get_or routes k d).0 network) test) in
        let wrong : true ≡ false = sym (covers-itself network) ∙ ap (λ n. covers n network) (sym same) ∙ none k d inside in
        absurd (cc))

    none-as-long : (route : Block × V) → IsLongestOver routes network route → ¬ (route.0.length ≡ network.length) → NoneTo routes
    none-as-long route longest shorter k d inside = false_from_ne_true (is_eq (network_order (get_or routes k d).0 network)) (λ test.
        let other = get_or routes k d in
        let same = same_network other.0 network (tied (network_order other.0 network) test) in
        let most : other.0.length ≤ route.0.length = longest.longest k d inside (ap (λ n. covers n network) same ∙ covers-itself network) in
        let fits = (is-over route.0 network.address network.length longest.matches).shorter in
        let lengths = ap (λ (n : Block). n.length) same in
        shorter (omega (arith, most, fits, lengths)))

    module _ (address : Address) (length : ℕ) (addresses : address ≡ network.address) (lengths : length ≡ network.length) where
      whole : record { address = address; length = length } ≡ network
      whole = λ i. record { address = addresses i; length = lengths i }

      -- where none covers the network, none is to it
      pub value-none : NoneCovers routes (record { address = address; length = length }) → None ≡ route_value routes network
      value-none none = sym (none-to routes (none-covers (subst (λ (n : Block). NoneCovers routes n) whole none)))

      module _ (route : Block × V) (longest : IsLongestOver routes (record { address = address; length = length }) route) where
        is-longest : IsLongestOver routes network route
        is-longest = subst (λ (n : Block). IsLongestOver routes n route) whole longest

        -- the longest that covers it is to it, where it is as long
        pub value-here : route.0.length ≡ length → Some route.1 ≡ route_value routes network
        value-here as_long =
            let route_is = All-contains (λ (r : Block × V). IsNetwork r.0) routes route are is-longest.listed in
            sym (one-to routes ordered route is-longest.listed (same-by-length route.0 network route_is is is-longest.matches (as_long ∙ lengths)))

        -- and else none is
        pub value-not-here : ¬ (route.0.length ≡ length) → None ≡ route_value routes network
        value-not-here shorter = sym (none-to routes (none-as-long route is-longest (λ same. shorter (same ∙ sym lengths))))
