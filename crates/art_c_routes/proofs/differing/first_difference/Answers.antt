use Rattle.std.proofs.Common.{◌≡◌, ◌∙◌, ℕ, List, [], ◌∷◌, ◌++◌, sym, ap, refl, arith, append_assoc}
use Rattle.art_routes.specs.Networks.{Block}
use Rattle.art_routes.proofs.CallLaws.{same_network}
use Rattle.art_c_routes.proofs.differing.first_difference.Invariants.{BeginAlike}
use Rattle.art_c_routes.proofs.differing.first_difference.Goals as goal

pub walk-init : goal.walk-init
walk-init c = record { same = []; old_is = refl; new_is = refl }

-- both have one route more alike
go-on : (old new old_left new_left : List (Block × ℕ)) (route other : Block × ℕ) (old_rest new_rest : List (Block × ℕ)) → BeginAlike old new old_left new_left
    → old_left ≡ route ∷ old_rest → new_left ≡ other ∷ new_rest → route ≡ other → BeginAlike old new old_rest new_rest
go-on old new old_left new_left route other old_rest new_rest alike one two same = record {
  same = alike.same ++ route ∷ [];
  old_is = alike.old_is ∙ ap (λ rs. alike.same ++ rs) one ∙ sym (append_assoc alike.same (route ∷ []) old_rest);
  new_is = alike.new_is ∙ ap (λ rs. alike.same ++ rs) (two ∙ ap (λ r. r ∷ new_rest) (sym same)) ∙ sym (append_assoc alike.same (route ∷ []) new_rest);
}

pub walk-preserved : goal.walk-preserved
walk-preserved c =
    let route = c.in-Some.route in let other = c.in-Some-next-2.other in
    let networks : route.0 ≡ other.0 = same_network route.0 other.0 (sym c.order_of.ensures ∙ c.in-Equal.is) in
    let values : route.1.now ≡ other.1.now = omega (arith, c.if-before-after.false) in
    go-on c.args.old c.args.new c.walk.old c.walk.new (route.0, route.1.now) (other.0, other.1.now) c.next.new.self c.next-in-walk.new.self
    c.walk.invariant c.in-Some.ensures.steps c.in-Some-next-2.ensures.steps (λ i. (networks i, values i))
