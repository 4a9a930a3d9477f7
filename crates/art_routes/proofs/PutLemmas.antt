-- Routes that are put one after another.
use Rattle.std.proofs.Common.{◌≡◌, ◌∙◌, List, [], ◌∷◌, ◌++◌, None, sym, ap, append_assoc, append-nil}
use Rattle.art_routes.specs.Networks.{Block}
use Rattle.art_routes.specs.Tables.{IsFirstToNetwork, put_route, put_routes, route_value}
use Rattle.art_routes.proofs.CallLaws.{put_last}

module _ {V : Type 0} where
  -- some of the routes are put, and the others are left
  pub record ArePut (all left table : List (Block × V)) : Type 0 where
    pub done : List (Block × V)
    pub whole : all ≡ done ++ left
    pub put : table ≡ put_routes [] done

  pub none_put : (all left table : List (Block × V)) → left ≡ all → table ≡ [] → ArePut all left table
  none_put all left table same none = record { done = []; whole = sym same; put = none }

  module _ (all left table : List (Block × V)) (so_far : ArePut all left table) where
    pub one_put : (route : Block × V) (rest new : List (Block × V)) → left ≡ route ∷ rest → new ≡ put_route table route.0 route.1 → ArePut all rest new
    one_put route rest new next put = record {
      done = so_far.done ++ route ∷ [];
      whole = so_far.whole ∙ ap (λ more. so_far.done ++ more) next ∙ sym (append_assoc so_far.done (route ∷ []) rest);
      put = put ∙ ap (λ it. put_route it route.0 route.1) so_far.put ∙ sym (put_last [] so_far.done route);
    }

    pub all_put : left ≡ [] → table ≡ put_routes [] all
    all_put none = so_far.put ∙ ap (λ done. put_routes [] done) (sym (so_far.whole ∙ ap (λ more. so_far.done ++ more) none ∙ append-nil so_far.done))

    pub next_is_first : (route : Block × V) (rest : List (Block × V)) → left ≡ route ∷ rest → route_value table route.0 ≡ None → IsFirstToNetwork all route
    next_is_first route rest next none = record {
      before = so_far.done;
      rest = rest;
      listed = so_far.whole ∙ ap (λ more. so_far.done ++ more) next;
      no_route = ap (λ routes. route_value routes route.0) (sym so_far.put) ∙ none;
    }
