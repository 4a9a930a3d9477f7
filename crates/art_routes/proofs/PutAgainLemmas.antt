-- Another value for a network that has a route is a route that is put there.
use Rattle.std.proofs.Common.{◌≡◌, ◌≢◌, ◌∙◌, ◌<◌, suc, true, false, List, [], ◌∷◌, All, None, get_or, refl, sym, ap, arith}
use Rattle.std.specs.Ordering.{is_eq, match_ordering}
use Rattle.std.specs.declared.cmp.Ordering.{Ordering}
use Rattle.std.specs.declared.cmp.Ordering.TheVariants.{Less, Equal, Greater}
use Rattle.std.proofs.lemmas.Bool.{false_from_ne_true}
use Rattle.std.proofs.lemmas.List.Elements.{All-cons, All-head, All-tail}
use Rattle.art_routes.specs.Networks.{Block, IsNetwork, network_order}
use Rattle.art_routes.specs.Tables.{AreInOrder, put_route, route_value, routes_with_value}
use Rattle.art_routes.proofs.CallLaws.{same_network, tied, ties_itself}
use Rattle.art_routes.proofs.OrderLemmas.{less-rank, rank}
use Rattle.art_routes.proofs.ReadLemmas.{NoneTo, none-to}

differs : (network other : Block) → rank network < rank other → is_eq (network_order other network) ≡ false
differs network other less = false_from_ne_true (is_eq (network_order other network)) (λ test.
    let ranks = ap rank (same_network other network (tied (network_order other network) test)) in
    absurd (omega (arith, ranks, less)))

module _ {V : Type 0} (network : Block) (is : IsNetwork network) (value : V) where
  with-none : (routes : List (Block × V)) → NoneTo network routes → routes_with_value routes network value ≡ routes
  with-none [] none = refl
  with-none (route ∷ routes) none =
      let first : is_eq (network_order route.0 network) ≡ false = All-head (λ (r : Block × V). is_eq (network_order r.0 network) ≡ false) route routes none in
      rw first (ap (λ more. route ∷ more) (with-none routes (All-tail (λ (r : Block × V). is_eq (network_order r.0 network) ≡ false) route routes none)))

  -- the routes behind one that comes no earlier are to others
  none-behind : (route : Block × V) (routes : List (Block × V)) → AreInOrder (route ∷ routes) → All (λ r. IsNetwork r.0) (route ∷ routes) → ¬ (rank route.0 < rank network) → NoneTo network routes
  none-behind route routes ordered are no_earlier k d inside =
      let less = less-rank route.0 (get_or routes k d).0 (All-head (λ (r : Block × V). IsNetwork r.0) route routes are) (All-tail (λ (r : Block × V). IsNetwork r.0) route routes are k d inside) (ordered 0 (suc k) d (omega arith) (omega (arith, inside))) in
      differs network (get_or routes k d).0 (omega (arith, less, no_earlier))

  pub with-is-put : (routes : List (Block × V)) → AreInOrder routes → All (λ r. IsNetwork r.0) routes → route_value routes network ≢ None → routes_with_value routes network value ≡ put_route routes network value
  with-is-put [] ordered are found = absurd (found refl)
  with-is-put (route ∷ routes) ordered are found =
      by_order (network_order network route.0) refl
      (with-is-put routes (λ i j d less inside. ordered (suc i) (suc j) d (omega (arith, less)) (omega (arith, inside))) (All-tail (λ (r : Block × V). IsNetwork r.0) route routes are))
    where
      route_is : IsNetwork route.0
      route_is = All-head (λ (r : Block × V). IsNetwork r.0) route routes are

      by_order : (o : Ordering) → network_order network route.0 ≡ o → (route_value routes network ≢ None → routes_with_value routes network value ≡ put_route routes network value)
          → routes_with_value (route ∷ routes) network value ≡ match_ordering o ((network, value) ∷ route ∷ routes) ((network, value) ∷ routes) (route ∷ put_route routes network value)
      by_order Less at rest =
          let less = less-rank network route.0 is route_is at in
          absurd (found (none-to network (route ∷ routes) (All-cons (λ (r : Block × V). is_eq (network_order r.0 network) ≡ false) route routes (differs network route.0 less) (none-behind route routes ordered are (λ before. omega (arith, less, before))))))
      by_order Equal at rest =
          let same = same_network network route.0 at in
          let ranks = ap rank same in
          let it : is_eq (network_order route.0 network) ≡ true = ap (λ n. is_eq (network_order n network)) (sym same) ∙ ap is_eq (ties_itself network) in
          rw it (λ i. (sym same i, value) ∷ with-none routes (none-behind route routes ordered are (λ before. omega (arith, ranks, before))) i)
      by_order Greater at rest =
          let it : is_eq (network_order route.0 network) ≡ false = false_from_ne_true (is_eq (network_order route.0 network)) (λ test.
          let same = same_network route.0 network (tied (network_order route.0 network) test) in
          let wrong : Greater ≡ Equal = sym at ∙ ap (λ n. network_order network n) same ∙ ties_itself network in
          absurd (cc)) in
          rw it (ap (λ more. route ∷ more) (rest (rw it at found)))
