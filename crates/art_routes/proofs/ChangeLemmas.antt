-- A walk along two lists of routes in order: which changes it makes, in which order, and what they make of the first list.
use Rattle.std.proofs.Common.{◌≡◌, ◌∙◌, suc, Bool, true, false, not, cond, List, [], ◌∷◌, map, All, Some, None, refl, sym, ap, subst, arith}
use Rattle.std.proofs.lemmas.List.Elements.{All-cons, All-head, All-nil, All-tail}
use Rattle.std.proofs.lemmas.List.Kept.{AllPairs-cons}
use Rattle.std.specs.Cmp.{IsTotalOrder, nat_cmp_total, on_total, then_total}
use Rattle.std.specs.List.{AllByRecursion}
use Rattle.std.specs.Ordering.{is_eq, match_ordering, ordering_reverse}
use Rattle.std.specs.declared.cmp.Ordering.{Ordering}
use Rattle.std.specs.declared.cmp.Ordering.TheVariants.{Less, Equal, Greater}
use Rattle.art_routes.specs.declared.difference.Change.{Change}
use Rattle.art_routes.specs.declared.difference.Change.TheVariants.{Insert, Remove, Replace}
use Rattle.art_routes.specs.Changes.{AreOneIfEqual, ChangesAreInOrder, change_between, change_to, network_of, with_change, with_changes}
use Rattle.art_routes.specs.Differences.{differences, differences_from}
use Rattle.art_routes.specs.Networks.{Block, network_order}
use Rattle.art_routes.specs.Tables.{AreInOrder, put_route, route_value, without_route}
use Rattle.art_routes.proofs.CallLaws.{same_network, tied, ties_itself}

order_total : IsTotalOrder network_order
order_total =
    then_total (on_total (λ (network : Block). network.address.width) nat_cmp_total)
    (then_total (on_total (λ (network : Block). network.address.bits) nat_cmp_total) (on_total (λ (network : Block). network.length) nat_cmp_total))

pub turned : (a b : Block) → network_order a b ≡ Less → network_order b a ≡ Greater
turned a b less = order_total.antisymm b a ∙ ap ordering_reverse less

turned-back : (a b : Block) → network_order a b ≡ Greater → network_order b a ≡ Less
turned-back a b greater = order_total.antisymm b a ∙ ap ordering_reverse greater

turned-tie : (a b : Block) → network_order a b ≡ Equal → network_order b a ≡ Equal
turned-tie a b tie = order_total.antisymm b a ∙ ap ordering_reverse tie

by-recursion : {X : Type 0} (P : X → Type 0) (xs : List X) → All P xs → AllByRecursion P xs
by-recursion P [] all = tt
by-recursion P (x ∷ xs) all = (All-head P x xs all, by-recursion P xs (All-tail P x xs all))

pub by-places : {X : Type 0} (P : X → Type 0) (xs : List X) → AllByRecursion P xs → All P xs
by-places P [] all = All-nil P
by-places P (x ∷ xs) all = All-cons P x xs all.0 (by-places P xs all.1)

module _ {V : Type 0} where
  -- the routes are to networks behind this one
  abbrev Above : Block → List (Block × V) → Type 0
  Above network routes = AllByRecursion (λ route. network_order network route.0 ≡ Less) routes

  -- each route is before those behind it
  abbrev Ordered : List (Block × V) → Type 0
  Ordered [] = Unit {0}
  Ordered (route ∷ routes) = Above route.0 routes × Ordered routes

  ordered : (routes : List (Block × V)) → AreInOrder routes → Ordered routes
  ordered [] pairs = tt
  ordered (route ∷ routes) pairs = (
    by-recursion (λ (other : Block × V). network_order route.0 other.0 ≡ Less) routes (λ k d inside. pairs 0 (suc k) d (omega arith) (omega (arith, inside))),
    ordered routes (λ i j d less inside. pairs (suc i) (suc j) d (omega (arith, less)) (omega (arith, inside))),
  )

  climbs : (low high : Block) (routes : List (Block × V)) → network_order low high ≡ Less → Above high routes → Above low routes
  climbs low high [] less above = tt
  climbs low high (route ∷ routes) less above = (order_total.trans low high route.0 less above.0, climbs low high routes less above.1)

  none-above : (network : Block) (routes : List (Block × V)) → Above network routes → route_value routes network ≡ None
  none-above network [] above = refl
  none-above network (route ∷ routes) above =
      ap (λ o. cond (is_eq o) (Some route.1) (route_value routes network)) (turned network route.0 above.0) ∙ none-above network routes above.1

  -- the changes are to networks behind this one
  abbrev AboveChanges : Block → List (Change V) → Type 0
  AboveChanges network changes = AllByRecursion (λ change. network_order network (network_of change) ≡ Less) changes

  abbrev OrderedChanges : List (Change V) → Type 0
  OrderedChanges [] = Unit {0}
  OrderedChanges (change ∷ changes) = AboveChanges (network_of change) changes × OrderedChanges changes

  changes-ordered : (changes : List (Change V)) → OrderedChanges changes → ChangesAreInOrder changes
  changes-ordered [] are = λ i j d less inside. absurd (omega (arith, inside))
  changes-ordered (change ∷ changes) are =
      AllPairs-cons (λ a b. network_order (network_of a) (network_of b) ≡ Less) change changes
      (by-places (λ (other : Change V). network_order (network_of change) (network_of other) ≡ Less) changes are.0) (changes-ordered changes are.1)

  -- a change to a network behind a route leaves that
  change-behind : (route : Block × V) (routes : List (Block × V)) (change : Change V) → network_order route.0 (network_of change) ≡ Less → with_change (route ∷ routes) change ≡ route ∷ with_change routes change
  change-behind route routes (Insert network value) less =
      ap (λ o. match_ordering o ((network, value) ∷ route ∷ routes) ((network, value) ∷ routes) (route ∷ put_route routes network value)) (turned route.0 network less)
  change-behind route routes (Remove network value) less = ap (λ o. cond (not (is_eq o)) (route ∷ without_route routes network) (without_route routes network)) less
  change-behind route routes (Replace network value) less =
      ap (λ o. match_ordering o ((network, value) ∷ route ∷ routes) ((network, value) ∷ routes) (route ∷ put_route routes network value)) (turned route.0 network less)

  changes-behind : (route : Block × V) (routes : List (Block × V)) (changes : List (Change V)) → AboveChanges route.0 changes → with_changes (route ∷ routes) changes ≡ route ∷ with_changes routes changes
  changes-behind route routes [] above = refl
  changes-behind route routes (change ∷ changes) above =
      ap (λ rs. with_changes rs changes) (change-behind route routes change above.0) ∙ changes-behind route (with_change routes change) changes above.1

  without-above : (network : Block) (routes : List (Block × V)) → Above network routes → without_route routes network ≡ routes
  without-above network [] above = refl
  without-above network (route ∷ routes) above =
      ap (λ o. cond (not (is_eq o)) (route ∷ without_route routes network) (without_route routes network)) (turned network route.0 above.0)
      ∙ ap (λ rs. route ∷ rs) (without-above network routes above.1)

  without-first : (route : Block × V) (routes : List (Block × V)) → Above route.0 routes → without_route (route ∷ routes) route.0 ≡ routes
  without-first route routes above =
      ap (λ o. cond (not (is_eq o)) (route ∷ without_route routes route.0) (without_route routes route.0)) (ties_itself route.0) ∙ without-above route.0 routes above

  module _ (eq : V → V → Bool) where
    abbrev inserts : List (Block × V) → List (Change V)
    inserts others = map (λ other. Insert other.0 other.1) others

    inserts-above : (low : Block) (others : List (Block × V)) → Above low others → AboveChanges low (inserts others)
    inserts-above low [] above = tt
    inserts-above low (other ∷ others) above = (above.0, inserts-above low others above.1)

    inserts-ordered : (others : List (Block × V)) → Ordered others → OrderedChanges (inserts others)
    inserts-ordered [] are = tt
    inserts-ordered (other ∷ others) are = (inserts-above other.0 others are.0, inserts-ordered others are.1)

    -- a walk among routes that stand behind a network changes none before
    above-from : (low : Block) (route : Block × V) (rest : List (Block × V) → List (Change V)) → network_order low route.0 ≡ Less
        → ((others : List (Block × V)) → Above low others → AboveChanges low (rest others))
        → (others : List (Block × V)) → Above low others → AboveChanges low (differences_from eq route rest others)
    above-from low route rest less all [] above = (less, all [] tt)
    above-from low route rest less all (other ∷ others) above = by_order (above-from low route rest less all others above.1) (network_order route.0 other.0)
      where
        by_test : (t : Bool) → AboveChanges low (cond t (rest others) (Replace other.0 other.1 ∷ rest others))
        by_test true = all others above.1
        by_test false = (above.0, all others above.1)

        by_order : AboveChanges low (differences_from eq route rest others) → (o : Ordering)
            → AboveChanges low (match_ordering o (Remove route.0 route.1 ∷ rest (other ∷ others)) (cond (eq route.1 other.1) (rest others) (Replace other.0 other.1 ∷ rest others)) (Insert other.0 other.1 ∷ differences_from eq route rest others))
        by_order further Less = (less, all (other ∷ others) above)
        by_order further Equal = by_test (eq route.1 other.1)
        by_order further Greater = (above.0, further)

    above-both : (low : Block) (routes others : List (Block × V)) → Above low routes → Above low others → AboveChanges low (differences eq routes others)
    above-both low [] others all above = inserts-above low others above
    above-both low (route ∷ routes) others all above =
        above-from low route (differences eq routes) all.0 (λ more also. above-both low routes more all.1 also) others above

    module _ (route : Block × V) (routes : List (Block × V)) (first : Above route.0 routes) where
      -- the routes from here on stand behind a route before them
      all-behind : (other : Block × V) (others : List (Block × V)) → network_order route.0 other.0 ≡ Less → Above other.0 others → Above route.0 (other ∷ others)
      all-behind other others less above = (less, climbs route.0 other.0 others less above)

      same-behind : (other : Block × V) → network_order route.0 other.0 ≡ Equal → Above other.0 routes
      same-behind other tie = subst (λ n. Above n routes) (same_network route.0 other.0 tie) first

      behind-greater : (other : Block × V) (others : List (Block × V)) → network_order route.0 other.0 ≡ Greater → Above other.0 others
          → AboveChanges other.0 (differences_from eq route (differences eq routes) others)
      behind-greater other others greater above =
          let less = turned-back route.0 other.0 greater in
          above-from other.0 route (differences eq routes) less (λ more also. above-both other.0 routes more (climbs other.0 route.0 routes less first) also) others above

      ordered-from : ((others : List (Block × V)) → Ordered others → OrderedChanges (differences eq routes others))
          → (others : List (Block × V)) → Ordered others → OrderedChanges (differences_from eq route (differences eq routes) others)
      ordered-from rest [] are = (above-both route.0 routes [] first tt, rest [] tt)
      ordered-from rest (other ∷ others) are = by_order (ordered-from rest others are.1) (network_order route.0 other.0) refl
        where
          by_test : network_order route.0 other.0 ≡ Equal → (t : Bool) → OrderedChanges (cond t (differences eq routes others) (Replace other.0 other.1 ∷ differences eq routes others))
          by_test tie true = rest others are.1
          by_test tie false = (above-both other.0 routes others (same-behind other tie) are.0, rest others are.1)

          by_order : OrderedChanges (differences_from eq route (differences eq routes) others) → (o : Ordering) → network_order route.0 other.0 ≡ o
              → OrderedChanges (match_ordering o (Remove route.0 route.1 ∷ differences eq routes (other ∷ others)) (cond (eq route.1 other.1) (differences eq routes others) (Replace other.0 other.1 ∷ differences eq routes others))
              (Insert other.0 other.1 ∷ differences_from eq route (differences eq routes) others))
          by_order further Less is = (above-both route.0 routes (other ∷ others) first (all-behind other others is are.0), rest (other ∷ others) are)
          by_order further Equal is = by_test is (eq route.1 other.1)
          by_order further Greater is = (behind-greater other others is are.0, further)

      -- what the changes make of the routes
      applied-from : AreOneIfEqual eq → ((others : List (Block × V)) → Ordered others → with_changes routes (differences eq routes others) ≡ others)
          → (others : List (Block × V)) → Ordered others → with_changes (route ∷ routes) (differences_from eq route (differences eq routes) others) ≡ others
      applied-from one rest [] are = ap (λ rs. with_changes rs (differences eq routes [])) (without-first route routes first) ∙ rest [] tt
      applied-from one rest (other ∷ others) are = by_order (applied-from one rest others are.1) (network_order route.0 other.0) refl
        where
          by_test : network_order route.0 other.0 ≡ Equal → (t : Bool) → eq route.1 other.1 ≡ t
              → with_changes (route ∷ routes) (cond t (differences eq routes others) (Replace other.0 other.1 ∷ differences eq routes others)) ≡ other ∷ others
          by_test tie true same =
              let networks = same_network route.0 other.0 tie in
              let values = one route.1 other.1 same in
              changes-behind route routes (differences eq routes others) (above-both route.0 routes others first (subst (λ n. Above n others) (sym networks) are.0))
              ∙ (λ i. (networks i, values i) ∷ rest others are.1 i)
          by_test tie false differ =
              ap (λ o. with_changes (match_ordering o ((other.0, other.1) ∷ route ∷ routes) ((other.0, other.1) ∷ routes) (route ∷ put_route routes other.0 other.1)) (differences eq routes others)) (turned-tie route.0 other.0 tie)
              ∙ changes-behind other routes (differences eq routes others) (above-both other.0 routes others (same-behind other tie) are.0) ∙ ap (λ rs. other ∷ rs) (rest others are.1)

          by_order : with_changes (route ∷ routes) (differences_from eq route (differences eq routes) others) ≡ others → (o : Ordering) → network_order route.0 other.0 ≡ o
              → with_changes (route ∷ routes) (match_ordering o (Remove route.0 route.1 ∷ differences eq routes (other ∷ others)) (cond (eq route.1 other.1) (differences eq routes others) (Replace other.0 other.1 ∷ differences eq routes others))
              (Insert other.0 other.1 ∷ differences_from eq route (differences eq routes) others))
              ≡ other ∷ others
          by_order further Less is = ap (λ rs. with_changes rs (differences eq routes (other ∷ others))) (without-first route routes first) ∙ rest (other ∷ others) are
          by_order further Equal is = by_test is (eq route.1 other.1) refl
          by_order further Greater is =
              ap (λ o. with_changes (match_ordering o ((other.0, other.1) ∷ route ∷ routes) ((other.0, other.1) ∷ routes) (route ∷ put_route routes other.0 other.1)) (differences_from eq route (differences eq routes) others)) (turned-back route.0 other.0 is)
              ∙ changes-behind other (route ∷ routes) (differences_from eq route (differences eq routes) others) (behind-greater other others is are.0) ∙ ap (λ rs. other ∷ rs) further

    pub ordered-both : (routes others : List (Block × V)) → Ordered routes → Ordered others → OrderedChanges (differences eq routes others)
    ordered-both [] others all are = inserts-ordered others are
    ordered-both (route ∷ routes) others all are = ordered-from route routes all.0 (λ more also. ordered-both routes more all.1 also) others are

    inserted : (others : List (Block × V)) → Ordered others → with_changes [] (inserts others) ≡ others
    inserted [] are = refl
    inserted (other ∷ others) are = changes-behind other [] (inserts others) (inserts-above other.0 others are.0) ∙ ap (λ rs. other ∷ rs) (inserted others are.1)

    applied-both : AreOneIfEqual eq → (routes others : List (Block × V)) → Ordered routes → Ordered others → with_changes routes (differences eq routes others) ≡ others
    applied-both one [] others all are = inserted others are
    applied-both one (route ∷ routes) others all are = applied-from route routes all.0 one (λ more also. applied-both one routes more all.1 also) others are

    pub in-order : (routes others : List (Block × V)) → AreInOrder routes → AreInOrder others → ChangesAreInOrder (differences eq routes others)
    in-order routes others all are = changes-ordered (differences eq routes others) (ordered-both routes others (ordered routes all) (ordered others are))

    pub applied : AreOneIfEqual eq → (routes others : List (Block × V)) → AreInOrder routes → AreInOrder others → with_changes routes (differences eq routes others) ≡ others
    applied one routes others all are = applied-both one routes others (ordered routes all) (ordered others are)

    -- the change to each network
    module _ (x : Block) where
      one-of : (network : Block) → is_eq (network_order network x) ≡ true → network ≡ x
      one-of network at = same_network network x (tied (network_order network x) at)

      none-behind : (network : Block) (routes : List (Block × V)) → is_eq (network_order network x) ≡ true → Above network routes → route_value routes x ≡ None
      none-behind network routes at above = none-above x routes (subst (λ n. Above n routes) (one-of network at) above)

      each-insert : (others : List (Block × V)) → change_to x (inserts others) ≡ change_between eq x None (route_value others x)
      each-insert [] = refl
      each-insert (other ∷ others) = by_test (each-insert others) (is_eq (network_order other.0 x)) refl
        where
          by_test : change_to x (inserts others) ≡ change_between eq x None (route_value others x) → (t : Bool) → is_eq (network_order other.0 x) ≡ t
              → cond t (Some (Insert other.0 other.1)) (change_to x (inserts others)) ≡ change_between eq x None (cond t (Some other.1) (route_value others x))
          by_test further true at = ap (λ n. Some (Insert n other.1)) (one-of other.0 at)
          by_test further false at = further

      module _ (route : Block × V) (routes : List (Block × V)) (first : Above route.0 routes) where
        each-from : ((others : List (Block × V)) → Ordered others → change_to x (differences eq routes others) ≡ change_between eq x (route_value routes x) (route_value others x))
            → (others : List (Block × V)) → Ordered others → change_to x (differences_from eq route (differences eq routes) others) ≡ change_between eq x (route_value (route ∷ routes) x) (route_value others x)
        each-from rest [] are = by_test (is_eq (network_order route.0 x)) refl
          where
            by_test : (t : Bool) → is_eq (network_order route.0 x) ≡ t
                → cond t (Some (Remove route.0 route.1)) (change_to x (differences eq routes [])) ≡ change_between eq x (cond t (Some route.1) (route_value routes x)) None
            by_test true at = ap (λ n. Some (Remove n route.1)) (one-of route.0 at)
            by_test false at = rest [] tt
        each-from rest (other ∷ others) are = by_order (each-from rest others are.1) (network_order route.0 other.0) refl
          where
            removed : network_order route.0 other.0 ≡ Less → (t : Bool) → is_eq (network_order route.0 x) ≡ t
                → cond t (Some (Remove route.0 route.1)) (change_to x (differences eq routes (other ∷ others))) ≡ change_between eq x (cond t (Some route.1) (route_value routes x)) (route_value (other ∷ others) x)
            removed less true at =
                ap (λ n. Some (Remove n route.1)) (one-of route.0 at)
                ∙ ap (λ v. change_between eq x (Some route.1) v) (sym (none-behind route.0 (other ∷ others) at (less, climbs route.0 other.0 others less are.0)))
            removed less false at = rest (other ∷ others) are

            same-at : is_eq (network_order route.0 x) ≡ true → is_eq (network_order other.0 x) ≡ true → (s : Bool)
                → change_to x (cond s (differences eq routes others) (Replace other.0 other.1 ∷ differences eq routes others)) ≡ cond s None (Some (Replace x other.1))
            same-at at also true =
                rest others are.1
                ∙ (λ i. change_between eq x (none-behind route.0 routes at first i) (none-behind other.0 others also are.0 i))
            same-at at also false = ap (λ t. cond t (Some (Replace other.0 other.1)) (change_to x (differences eq routes others))) also ∙ ap (λ n. Some (Replace n other.1)) (one-of other.0 also)

            other-at : is_eq (network_order other.0 x) ≡ false → (s : Bool)
                → change_to x (cond s (differences eq routes others) (Replace other.0 other.1 ∷ differences eq routes others)) ≡ change_between eq x (route_value routes x) (route_value others x)
            other-at not_it true = rest others are.1
            other-at not_it false = ap (λ t. cond t (Some (Replace other.0 other.1)) (change_to x (differences eq routes others))) not_it ∙ rest others are.1

            replaced : network_order route.0 other.0 ≡ Equal → (t : Bool) → is_eq (network_order route.0 x) ≡ t → is_eq (network_order other.0 x) ≡ t
                → change_to x (cond (eq route.1 other.1) (differences eq routes others) (Replace other.0 other.1 ∷ differences eq routes others))
                ≡ change_between eq x (cond t (Some route.1) (route_value routes x)) (cond t (Some other.1) (route_value others x))
            replaced tie true at also = same-at at also (eq route.1 other.1)
            replaced tie false at also = other-at also (eq route.1 other.1)

            added : change_to x (differences_from eq route (differences eq routes) others) ≡ change_between eq x (route_value (route ∷ routes) x) (route_value others x)
                → network_order route.0 other.0 ≡ Greater → (t : Bool) → is_eq (network_order other.0 x) ≡ t
                → cond t (Some (Insert other.0 other.1)) (change_to x (differences_from eq route (differences eq routes) others)) ≡ change_between eq x (route_value (route ∷ routes) x) (cond t (Some other.1) (route_value others x))
            added further greater true at =
                let less = turned-back route.0 other.0 greater in
                ap (λ n. Some (Insert n other.1)) (one-of other.0 at)
                ∙ ap (λ v. change_between eq x v (Some other.1)) (sym (none-behind other.0 (route ∷ routes) at (less, climbs other.0 route.0 routes less first)))
            added further greater false at = further

            by_order : change_to x (differences_from eq route (differences eq routes) others) ≡ change_between eq x (route_value (route ∷ routes) x) (route_value others x)
                → (o : Ordering) → network_order route.0 other.0 ≡ o
                → change_to x (match_ordering o (Remove route.0 route.1 ∷ differences eq routes (other ∷ others)) (cond (eq route.1 other.1) (differences eq routes others) (Replace other.0 other.1 ∷ differences eq routes others))
                (Insert other.0 other.1 ∷ differences_from eq route (differences eq routes) others))
                ≡ change_between eq x (route_value (route ∷ routes) x) (route_value (other ∷ others) x)
            by_order further Less is = removed is (is_eq (network_order route.0 x)) refl
            by_order further Equal is =
                let also : is_eq (network_order other.0 x) ≡ is_eq (network_order route.0 x) = ap (λ n. is_eq (network_order n x)) (sym (same_network route.0 other.0 is)) in
                replaced is (is_eq (network_order route.0 x)) refl also
                ∙ ap (λ t. change_between eq x (route_value (route ∷ routes) x) (cond t (Some other.1) (route_value others x))) (sym also)
            by_order further Greater is = added further is (is_eq (network_order other.0 x)) refl

      each-both : (routes others : List (Block × V)) → Ordered routes → Ordered others → change_to x (differences eq routes others) ≡ change_between eq x (route_value routes x) (route_value others x)
      each-both [] others all are = each-insert others
      each-both (route ∷ routes) others all are = each-from route routes all.0 (λ more also. each-both routes more all.1 also) others are

    pub each : (routes others : List (Block × V)) → AreInOrder routes → AreInOrder others → (x : Block) → change_to x (differences eq routes others) ≡ change_between eq x (route_value routes x) (route_value others x)
    each routes others all are x = each-both x routes others (ordered routes all) (ordered others are)
