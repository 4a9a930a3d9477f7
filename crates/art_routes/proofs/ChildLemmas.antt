-- The walk along the parts of a network with no route between.
use Rattle.std.proofs.Common.{◌≡◌, ◌∙◌, ◌⊎◌, inl, inr, suc, ◌<◌, ◌≤◌, ◌&&◌, Bool, true, false, not, List, [], ◌∷◌, All, AllPairs, Contains, Some, filter, get_or, refl, sym, ap, subst, arith}
use Rattle.std.specs.List.{list_any}
use Rattle.std.specs.Ordering.{is_gt}
use Rattle.std.specs.declared.cmp.Ordering.TheVariants.{Less}
use Rattle.std.proofs.lemmas.Bool.{and_from, and_parts, cases_lt, false_from_ne_true, not-true, not_from_false}
use Rattle.std.proofs.lemmas.List.Elements.{All-contains, Contains-get_or, filter_passes}
use Rattle.std.proofs.lemmas.List.Folds.{list_any-from_Any, list_any_none}
use Rattle.std.proofs.lemmas.List.Kept.{AllPairs-filter}
use Rattle.art_routes.specs.Children.{IsPast, children_left}
use Rattle.art_routes.specs.Keys.{last_network}
use Rattle.art_routes.specs.Networks.{Block, IsNetwork, covers, is_around, network_order}
use Rattle.art_routes.specs.Tables.{AreInOrder, behind, children, is_child}
use Rattle.art_routes.proofs.CoveringLemmas.{filter-none}
use Rattle.art_routes.proofs.OrderLemmas.{behind-rank, down-rank, less-rank, not-behind-rank, rank, rank-behind, rank-down}
use Rattle.art_routes.proofs.PartLemmas.{around-behind, around-covers, around-from, contains-kept, covers-itself, covers-part, covers-to, filter-through, head-or-rest, kept-contains, last-is, within-covers}

module _ {V : Type 0} (network : Block) (routes : List (Block × V)) (ordered : AreInOrder routes) (are : All (λ route. IsNetwork route.0) routes) where
  of-table : (route : Block × V) → Contains routes route → IsNetwork route.0
  of-table route there = All-contains (λ r. IsNetwork r.0) routes route are there

  -- a route that is between is none of them
  between-none : (route other : Block × V) → Contains routes other → is_around network other.0 ≡ true → is_around other.0 route.0 ≡ true → is_child network routes route.0 ≡ false
  between-none route other (k, within, at) outer inner =
      let test = λ (o : Block × V). is_around network o.0 && is_around o.0 route.0 in
      let some : list_any test routes ≡ true = list_any-from_Any test routes (k, other, within, at, and_from (is_around network other.0) (is_around other.0 route.0) outer inner) in
      false_from_ne_true (is_child network routes route.0) (λ child.
      let none : list_any test routes ≡ false = not-true (list_any test routes) (and_parts (is_around network route.0) (not (list_any test routes)) child).1 in
      let wrong : true ≡ false = sym some ∙ none in
      absurd (cc))

  -- and one inside is one of them where none is
  is-one : (route : Block × V) → is_around network route.0 ≡ true → ((other : Block × V) → Contains routes other → is_around network other.0 ≡ true → is_around other.0 route.0 ≡ false) → is_child network routes route.0 ≡ true
  is-one route outer none =
      let test = λ (o : Block × V). is_around network o.0 && is_around o.0 route.0 in
      and_from (is_around network route.0) (not (list_any test routes)) outer
      (not_from_false (list_any test routes) (list_any_none test routes (λ k d inside. false_from_ne_true (test (get_or routes k d)) (λ both.
      let other = get_or routes k d in
      let parts = and_parts (is_around network other.0) (is_around other.0 route.0) both in
      let wrong : true ≡ false = sym parts.1 ∙ none other (Contains-get_or routes k d inside) parts.0 in
      absurd (cc)))))

  child-around : (route : Block × V) → is_child network routes route.0 ≡ true → is_around network route.0 ≡ true
  child-around route child = (and_parts (is_around network route.0) (not (list_any (λ o. is_around network o.0 && is_around o.0 route.0) routes)) child).0

  -- at the start none is passed
  module _ (is : IsNetwork network) where
    pub walk-begins : IsPast network network routes
    walk-begins = record {
      network_is = is;
      after_is = is;
      begun = rank-down network network is is (omega arith);
      past = λ other part there outer not_behind part_is behind.
          let other_is = of-table other there in
          let up = not-behind-rank other.0 network other_is is not_behind in
          absurd (omega (arith, up, around-behind network other.0 is other_is outer));
    }

    pub all-left : children network routes ≡ children_left network (Some network) routes
    all-left =
        sym (filter-through (λ route. is_child network routes route.0) (λ route. is_gt (network_order route.0 network)) routes
        (λ k d inside child. rank-behind (get_or routes k d).0 network (are k d inside) is (around-behind network (get_or routes k d).0 is (are k d inside) (child-around (get_or routes k d) child))))

  module _ (after : Block) (walk : IsPast network after routes) where
    abbrev is_behind : Block × V → Bool
    is_behind route = is_gt (network_order route.0 after)

    begun : rank network ≤ rank after
    begun = down-rank after network walk.after_is walk.network_is walk.begun

    left-behind : (route : Block × V) → Contains (behind after routes) route → IsNetwork route.0 × (rank after < rank route.0)
    left-behind route there =
        let route_is = of-table route (contains-kept is_behind routes route there) in
        (route_is, behind-rank route.0 after route_is walk.after_is (All-contains (λ r. is_behind r ≡ true) (behind after routes) route (filter_passes is_behind routes) there))

    module _ (route : Block × V) (rest : List (Block × V)) (next : behind after routes ≡ route ∷ rest) where
      route-there : Contains (behind after routes) route
      route-there = subst (λ rs. Contains rs route) (sym next) (0, omega arith, refl)

      route-is : IsNetwork route.0
      route-is = (left-behind route route-there).0

      route-behind : rank after < rank route.0
      route-behind = (left-behind route route-there).1

      pairs : AllPairs (λ a b. network_order a.0 b.0 ≡ Less) (route ∷ rest)
      pairs = subst (λ rs. AllPairs (λ a b. network_order a.0 b.0 ≡ Less) rs) next (AllPairs-filter (λ a b. network_order a.0 b.0 ≡ Less) is_behind routes ordered)

      rest-there : (other : Block × V) → Contains rest other → Contains (behind after routes) other
      rest-there other (k, within, at) = subst (λ rs. Contains rs other) (sym next) (suc k, omega (arith, within), at)

      rest-behind : (other : Block × V) → Contains rest other → rank route.0 < rank other.0
      rest-behind other (k, within, at) =
          less-rank route.0 other.0 route-is (left-behind other (rest-there other (k, within, at))).0
          (subst (λ (o : Block × V). network_order route.0 o.0 ≡ Less) at (pairs 0 (suc k) other (omega arith) (omega (arith, within))))

      -- a route of the table that stands behind is no earlier
      no-earlier : (other : Block × V) → Contains routes other → rank after < rank other.0 → rank route.0 ≤ rank other.0
      no-earlier other there more =
          let other_is = of-table other there in
          let kept = subst (λ rs. Contains rs other) next (kept-contains is_behind routes other there (rank-behind other.0 after other_is walk.after_is more)) in
          by_place (head-or-rest route rest other kept)
        where
          by_place : (route ≡ other) ⊎ Contains rest other → rank route.0 ≤ rank other.0
          by_place (inl same) = let ranks = ap (λ (r : Block × V). rank r.0) same in omega (arith, ranks)
          by_place (inr later) = let less = rest-behind other later in omega (arith, less)

      -- where the network does not cover the first one behind, it covers none of them
      pub none-left : covers network route.0 ≡ false → children_left network (Some after) routes ≡ []
      none-left not_covered =
          ap (filter (λ r. is_child network routes r.0)) next
          ∙ filter-none (λ r. is_child network routes r.0) (route ∷ rest) (λ k d inside. false_from_ne_true (is_child network routes (get_or (route ∷ rest) k d).0) (λ child.
          let other = get_or (route ∷ rest) k d in
          let there = subst (λ rs. Contains rs other) (sym next) (Contains-get_or (route ∷ rest) k d inside) in
          let here = left-behind other there in
          let least = no-earlier other (contains-kept is_behind routes other there) here.1 in
          let to = covers-to network other.0 walk.network_is here.0 (around-covers network other.0 (child-around other child)) in
          let wrong : true ≡ false = sym (within-covers network route.0 walk.network_is route-is (omega (arith, begun, route-behind)) (omega (arith, least, to))) ∙ not_covered in
          absurd (cc)))

      module _ (inside : covers network route.0 ≡ true) where
        outer : is_around network route.0 ≡ true
        outer = around-from network route.0 walk.network_is route-is inside (omega (arith, begun, route-behind))

        -- it is one of them
        first-child : is_child network routes route.0 ≡ true
        first-child = is-one route outer (λ other there around. false_from_ne_true (is_around other.0 route.0) (λ inner.
            let other_is = of-table other there in
            let before = around-behind other.0 route.0 other_is route-is inner in
            elim (cases_lt (rank after) (rank other.0)) [
              | inl more ↦ let least = no-earlier other there more in absurd (omega (arith, least, before))
              | inr not_more ↦
                  let passed = walk.past other route.0 there around (false_from_ne_true (is_gt (network_order other.0 after)) (λ test. absurd (omega (arith, not_more, behind-rank other.0 after other_is walk.after_is test)))) route-is (rank-behind route.0 after route-is walk.after_is route-behind) in
                  let wrong : true ≡ false = sym inner ∙ passed in
                  absurd (cc)
            ]))

        last : Block
        last = last_network route.0

        last_is : IsNetwork (last_network route.0)
        last_is = last-is route.0 route-is

        last-behind : rank route.0 ≤ rank (last_network route.0)
        last-behind = covers-to route.0 route.0 route-is route-is (covers-itself route.0)

        -- behind its last address stand the others
        rest-left : filter (λ r. is_child network routes r.0) rest ≡ children_left network (Some (last_network route.0)) routes
        rest-left =
            sym (filter-through (λ r. is_child network routes r.0) (λ r. is_gt (network_order r.0 (last_network route.0))) rest
            (λ k d within child.
            let other = get_or rest k d in
            let there = Contains-get_or rest k d within in
            let other_is = (left-behind other (rest-there other there)).0 in
            elim (cases_lt (rank (last_network route.0)) (rank other.0)) [
              | inl more ↦ rank-behind other.0 (last_network route.0) other_is last_is more
              | inr not_more ↦
                  let later = rest-behind other there in
                  let covered = within-covers route.0 other.0 route-is other_is (omega (arith, later)) (omega (arith, not_more)) in
                  let wrong : true ≡ false = sym child ∙ between-none other route (contains-kept is_behind routes route route-there) outer (around-from route.0 other.0 route-is other_is covered later) in
                  absurd (cc)
            ]))
            ∙ ap (filter (λ r. is_child network routes r.0)) behind-last
          where
            not_itself : is_gt (network_order route.0 (last_network route.0)) ≡ false
            not_itself = false_from_ne_true (is_gt (network_order route.0 (last_network route.0))) (λ test. absurd (omega (arith, last-behind, behind-rank route.0 (last_network route.0) route-is last_is test)))

            without-head : filter (λ r. is_gt (network_order r.0 (last_network route.0))) (route ∷ rest) ≡ filter (λ r. is_gt (network_order r.0 (last_network route.0))) rest
            without-head = rw not_itself refl

            behind-last : filter (λ r. is_gt (network_order r.0 (last_network route.0))) rest ≡ behind (last_network route.0) routes
            behind-last =
                sym without-head
                ∙ ap (filter (λ r. is_gt (network_order r.0 (last_network route.0)))) (sym next)
                ∙ filter-through (λ r. is_gt (network_order r.0 (last_network route.0))) is_behind routes
                (λ k d within test.
                let other = get_or routes k d in
                let other_is = are k d within in
                let more = behind-rank other.0 (last_network route.0) other_is last_is test in
                rank-behind other.0 after other_is walk.after_is (omega (arith, more, last-behind, route-behind)))

        -- it comes next, and then those behind its last address
        pub one-left : children_left network (Some after) routes ≡ route ∷ children_left network (Some (last_network route.0)) routes
        one-left =
            ap (filter (λ r. is_child network routes r.0)) next
            ∙ (rw first-child refl)
            ∙ ap (λ more. route ∷ more) rest-left

        pub walk-on : IsPast network (last_network route.0) routes
        walk-on = record {
          network_is = walk.network_is;
          after_is = last_is;
          begun = rank-down (last_network route.0) network last_is walk.network_is (omega (arith, begun, route-behind, last-behind));
          past = λ other part there around not_behind part_is part_behind. false_from_ne_true (is_around other.0 part) (λ inner.
              let other_is = of-table other there in
              let most = not-behind-rank other.0 (last_network route.0) other_is last_is not_behind in
              let more = behind-rank part (last_network route.0) part_is last_is part_behind in
              elim (cases_lt (rank after) (rank other.0)) [
                | inl later ↦
                    let least = no-earlier other there later in
                    let covered = within-covers route.0 other.0 route-is other_is least most in
                    let whole = covers-part route.0 other.0 part other_is part_is covered (around-covers other.0 part inner) in
                    let to = covers-to route.0 part route-is part_is whole in
                    absurd (omega (arith, to, more))
                | inr not_later ↦
                    let passed = walk.past other part there around (false_from_ne_true (is_gt (network_order other.0 after)) (λ test. absurd (omega (arith, not_later, behind-rank other.0 after other_is walk.after_is test)))) part_is (rank-behind part after part_is walk.after_is (omega (arith, more, last-behind, route-behind))) in
                    let wrong : true ≡ false = sym inner ∙ passed in
                    absurd (cc)
              ]);
        }

    -- where no route comes next, none is left
    pub no-more : ((route : Block × V) (rest : List (Block × V)) → behind after routes ≡ route ∷ rest → covers network route.0 ≡ false) → children_left network (Some after) routes ≡ []
    no-more none = by_list (behind after routes) refl
      where
        by_list : (left : List (Block × V)) → behind after routes ≡ left → children_left network (Some after) routes ≡ []
        by_list [] is = ap (filter (λ r. is_child network routes r.0)) is
        by_list (route ∷ rest) is = none-left route rest is (none route rest is)
