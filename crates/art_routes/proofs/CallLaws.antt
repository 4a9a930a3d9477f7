-- What callers of a table may use: which value is found once a route is put, and of routes that are put in turn.
use Rattle.std.proofs.Common.{◌≡◌, ◌≢◌, ◌∙◌, ◌⊎◌, inl, inr, ℕ, ◌<◌, Bool, true, false, cond, List, [], ◌∷◌, ◌++◌, All, Contains, Some, None, refl, sym, ap, subst, arith}
use Rattle.std.proofs.lemmas.Cmp.{by_ranked, ranked}
use Rattle.std.proofs.lemmas.List.Elements.{All-cons, All-nil, Contains-append_right}
use Rattle.std.specs.Ordering.{is_eq, match_ordering, nat_cmp, ordering_then}
use Rattle.std.specs.declared.cmp.Ordering.{Ordering}
use Rattle.std.specs.declared.cmp.Ordering.TheVariants.{Less, Equal, Greater}
use Rattle.art_routes.specs.Networks.{Block, network_order}
use Rattle.art_routes.specs.Tables.{put_route, put_routes, route_value}

-- networks that tie are one
same_number : (v w : ℕ) → nat_cmp v w ≡ Equal → v ≡ w
same_number v w tied =
    by_ranked (v < w) (v ≡ w) (w < v) (nat_cmp v w) (ranked v w (nat_cmp v w) refl) (λ is less. let wrong : Less ≡ Equal = sym is ∙ tied in absurd (cc)) (λ is same. same)
    (λ is more. let wrong : Greater ≡ Equal = sym is ∙ tied in absurd (cc))

number_ties : (n : ℕ) → nat_cmp n n ≡ Equal
number_ties n = by_ranked (n < n) (n ≡ n) (n < n) (nat_cmp n n) (ranked n n (nat_cmp n n) refl) (λ is less. absurd (omega (arith, less))) (λ is same. is) (λ is more. absurd (omega (arith, more)))

both_tie : (o p : Ordering) → ordering_then o p ≡ Equal → (o ≡ Equal) × (p ≡ Equal)
both_tie Less p tied = absurd (cc)
both_tie Equal p tied = (refl, tied)
both_tie Greater p tied = absurd (cc)

pub same_network : (a b : Block) → network_order a b ≡ Equal → a ≡ b
same_network a b tied =
    let first = both_tie (nat_cmp a.address.width b.address.width) (ordering_then (nat_cmp a.address.bits b.address.bits) (nat_cmp a.length b.length)) tied in
    let later = both_tie (nat_cmp a.address.bits b.address.bits) (nat_cmp a.length b.length) first.1 in
    let widths = same_number a.address.width b.address.width first.0 in
    let bits = same_number a.address.bits b.address.bits later.0 in
    let lengths = same_number a.length b.length later.1 in
    λ i. record { address = record { width = widths i; bits = bits i }; length = lengths i }

pub ties_itself : (network : Block) → network_order network network ≡ Equal
ties_itself network = rw (number_ties network.address.width, number_ties network.address.bits, number_ties network.length) refl

pub tied : (o : Ordering) → is_eq o ≡ true → o ≡ Equal
tied Less test = absurd (cc)
tied Equal test = refl
tied Greater test = absurd (cc)

module _ {V : Type 0} where
  -- what is found once a route is put
  pub found_after_put : (routes : List (Block × V)) (network : Block) (value : V) (x : Block) → route_value (put_route routes network value) x ≡ cond (is_eq (network_order network x)) (Some value) (route_value routes x)
  found_after_put [] network value x = refl
  found_after_put (other ∷ routes) network value x = by_order (network_order network other.0) refl (found_after_put routes network value x)
    where
      by_order : (o : Ordering) → network_order network other.0 ≡ o → route_value (put_route routes network value) x ≡ cond (is_eq (network_order network x)) (Some value) (route_value routes x)
          → route_value (match_ordering o ((network, value) ∷ other ∷ routes) ((network, value) ∷ routes) (other ∷ put_route routes network value)) x ≡ cond (is_eq (network_order network x)) (Some value) (route_value (other ∷ routes) x)
      by_order Less is rest = refl
      by_order Equal is rest = by_test (is_eq (network_order network x)) refl
        where
          by_test : (t : Bool) → is_eq (network_order network x) ≡ t → route_value ((network, value) ∷ routes) x ≡ cond (is_eq (network_order network x)) (Some value) (route_value (other ∷ routes) x)
          by_test true at = rw at refl
          by_test false at =
              let differ : is_eq (network_order other.0 x) ≡ false = ap (λ n. is_eq (network_order n x)) (sym (same_network network other.0 is)) ∙ at in
              rw (at, differ) refl
      by_order Greater is rest = by_test (is_eq (network_order other.0 x)) refl
        where
          by_test : (t : Bool) → is_eq (network_order other.0 x) ≡ t
              → route_value (other ∷ put_route routes network value) x ≡ cond (is_eq (network_order network x)) (Some value) (route_value (other ∷ routes) x)
          by_test true at =
              let same = same_network other.0 x (tied (network_order other.0 x) at) in
              let differ : is_eq (network_order network x) ≡ false = ap (λ n. is_eq (network_order network n)) (sym same) ∙ ap is_eq is in
              rw (at, differ) refl
          by_test false at = rw at rest

  -- a route more is put after the others
  pub put_last : (routes done : List (Block × V)) (route : Block × V) → put_routes routes (done ++ route ∷ []) ≡ put_route (put_routes routes done) route.0 route.1
  put_last routes [] route = refl
  put_last routes (first ∷ done) route = put_last (put_route routes first.0 first.1) done route

  module _ (network : Block) where
    -- a network that has no route is that of none that were put
    none_after : (routes more : List (Block × V)) → route_value (put_routes routes more) network ≡ None → (route_value routes network ≡ None) × All (λ route. route.0 ≢ network) more
    none_after routes [] none = (none, All-nil (λ (route : Block × V). route.0 ≢ network))
    none_after routes (first ∷ more) none = by_test (is_eq (network_order first.0 network)) refl (none_after (put_route routes first.0 first.1) more none)
      where
        by_test : (t : Bool) → is_eq (network_order first.0 network) ≡ t → (route_value (put_route routes first.0 first.1) network ≡ None) × All (λ route. route.0 ≢ network) more
            → (route_value routes network ≡ None) × All (λ route. route.0 ≢ network) (first ∷ more)
        by_test true at rest =
            let wrong : Some first.1 ≡ None = sym (found_after_put routes first.0 first.1 network ∙ rw at refl) ∙ rest.0 in
            absurd (cc)
        by_test false at rest = (
          sym (found_after_put routes first.0 first.1 network ∙ rw at refl) ∙ rest.0,
          All-cons (λ (route : Block × V). route.0 ≢ network) first more
              (λ same. let wrong : true ≡ false = sym (ap is_eq (ap (λ n. network_order n network) same ∙ ties_itself network)) ∙ at in absurd (cc)) rest.1,
        )

    pub none_among : (routes : List (Block × V)) → route_value (put_routes [] routes) network ≡ None → All (λ route. route.0 ≢ network) routes
    none_among routes none = (none_after [] routes none).1

    -- a value that is found is that of a route that was put
    one_after : (routes more : List (Block × V)) (value : V) → route_value (put_routes routes more) network ≡ Some value → Contains more (network, value) ⊎ (route_value routes network ≡ Some value)
    one_after routes [] value found = inr found
    one_after routes (first ∷ more) value found = by_side (one_after (put_route routes first.0 first.1) more value found)
      where
        by_test : route_value (put_route routes first.0 first.1) network ≡ Some value → (t : Bool) → is_eq (network_order first.0 network) ≡ t → Contains (first ∷ more) (network, value) ⊎ (route_value routes network ≡ Some value)
        by_test is true at =
            let some : Some first.1 ≡ Some value = sym (found_after_put routes first.0 first.1 network ∙ rw at refl) ∙ is in
            let values : first.1 ≡ value = cc in
            let networks = same_network first.0 network (tied (network_order first.0 network) at) in
            let both : first ≡ (network, value) = λ i. (networks i, values i) in
            inl (subst (λ (route : Block × V). Contains (first ∷ more) route) both (0, omega arith, refl))
        by_test is false at = inr (sym (found_after_put routes first.0 first.1 network ∙ rw at refl) ∙ is)

        by_side : Contains more (network, value) ⊎ (route_value (put_route routes first.0 first.1) network ≡ Some value) → Contains (first ∷ more) (network, value) ⊎ (route_value routes network ≡ Some value)
        by_side (inl there) = inl (Contains-append_right (first ∷ []) more (network, value) there)
        by_side (inr here) = by_test here (is_eq (network_order first.0 network)) refl

    pub one_among : (routes : List (Block × V)) (value : V) → route_value (put_routes [] routes) network ≡ Some value → Contains routes (network, value)
    one_among routes value found = by_side (one_after [] routes value found)
      where
        by_side : Contains routes (network, value) ⊎ (route_value [] network ≡ Some value) → Contains routes (network, value)
        by_side (inl there) = there
        by_side (inr wrong) = absurd (cc)
