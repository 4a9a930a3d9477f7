-- Routes that are removed one after another, those inside a network, the first of them first.
use Rattle.std.proofs.Common.{◌≡◌, ◌∙◌, ◌-◌, ◌<◌, ◌≤◌, suc, Bool, true, false, not, List, [], ◌∷◌, ◌++◌, Result, Ok, Err, OnErr, All, filter, length, get_or, refl, sym, ap, subst, arith, append_assoc}
use Rattle.std.specs.Ordering.{is_eq}
use Rattle.std.specs.declared.cmp.Ordering.TheVariants.{Less}
use Rattle.std.proofs.lemmas.Bool.{false_from_ne_true, not-true, not_from_false}
use Rattle.std.proofs.lemmas.List.Elements.{All-head, filter_passes}
use Rattle.std.proofs.lemmas.List.Filters.{length-filter_both}
use Rattle.std.proofs.lemmas.List.Kept.{AllPairs-filter}
use Rattle.art_routes.specs.Networks.{Block, covers, network_order}
use Rattle.art_routes.specs.Removing.{LosesFirstCovered, without_covered}
use Rattle.art_routes.specs.Tables.{AreInOrder, covered, without_route}
use Rattle.art_routes.proofs.CallLaws.{same_network, tied, ties_itself}
use Rattle.art_routes.proofs.PartLemmas.{filter-all, filter-swap, filter-through}

-- what passes no test passes its contrary
none-passes : {X : Type 0} (p : X → Bool) (xs : List X) → filter p xs ≡ [] → filter (λ x. not (p x)) xs ≡ xs
none-passes p [] none = refl
none-passes p (x ∷ xs) none = by_test (p x) refl (none-passes p xs) none
  where
    by_test : (t : Bool) → p x ≡ t → (filter p xs ≡ [] → filter (λ y. not (p y)) xs ≡ xs) → filter p (x ∷ xs) ≡ [] → filter (λ y. not (p y)) (x ∷ xs) ≡ x ∷ xs
    by_test true is rest none = let wrong : x ∷ filter p xs ≡ [] = rw is at none in absurd (cc)
    by_test false is rest none = let fewer : filter p xs ≡ [] = rw is at none in rw is (ap (λ more. x ∷ more) (rest fewer))

pub on-err-always : {A E : Type 0} (r : Result A E) (P : Type 0) → P → OnErr r P
on-err-always (Ok x) P p = tt
on-err-always (Err e) P p = p

module _ {V : Type 0} (network : Block) where
  abbrev is_inside : Block × V → Bool
  is_inside route = covers network route.0

  -- some of the routes inside the network are gone, and all others are there
  pub record AreGone (old now : List (Block × V)) : Type 0 where
    pub gone : List (Block × V)
    pub first : covered network old ≡ gone ++ covered network now
    pub others : without_covered network now ≡ without_covered network old

  pub none-gone : (old : List (Block × V)) → AreGone old old
  none-gone old = record { gone = []; first = refl; others = refl }

  module _ (now : List (Block × V)) (ordered : AreInOrder now) (route : Block × V) (rest : List (Block × V)) (next : covered network now ≡ route ∷ rest) where
    abbrev is_other : Block × V → Bool
    is_other other = not (is_eq (network_order other.0 route.0))

    first-inside : covers network route.0 ≡ true
    first-inside = All-head (λ (r : Block × V). covers network r.0 ≡ true) route rest (subst (λ rs. All (λ (r : Block × V). covers network r.0 ≡ true) rs) next (filter_passes is_inside now))

    rest-differ : All (λ r. is_other r ≡ true) rest
    rest-differ k d inside = not_from_false (is_eq (network_order (get_or rest k d).0 route.0)) (false_from_ne_true (is_eq (network_order (get_or rest k d).0 route.0)) (λ test.
        let pairs = subst (λ rs. AreInOrder rs) next (AllPairs-filter (λ a b. network_order a.0 b.0 ≡ Less) is_inside now ordered) in
        let same = same_network (get_or rest k d).0 route.0 (tied (network_order (get_or rest k d).0 route.0) test) in
        let less : network_order route.0 (get_or rest k d).0 ≡ Less = pairs 0 (suc k) d (omega arith) (omega (arith, inside)) in
        let wrong : true ≡ false = sym (ap is_eq (ties_itself route.0)) ∙ ap (λ n. is_eq (network_order route.0 n)) (sym same) ∙ ap is_eq less in
        absurd (cc)))

    -- without the first of them the others inside the network are left
    pub rest-covered : covered network (without_route now route.0) ≡ rest
    rest-covered =
        let itself : is_eq (network_order route.0 route.0) ≡ true = ap is_eq (ties_itself route.0) in
        filter-swap is_inside is_other now ∙ ap (filter is_other) next ∙ (rw itself (filter-all is_other rest rest-differ))

    -- and those outside it
    same-others : without_covered network (without_route now route.0) ≡ without_covered network now
    same-others = filter-through (λ r. not (is_inside r)) is_other now (λ k d inside outer.
        let other = get_or now k d in
        not_from_false (is_eq (network_order other.0 route.0)) (false_from_ne_true (is_eq (network_order other.0 route.0)) (λ test.
        let same = same_network other.0 route.0 (tied (network_order other.0 route.0) test) in
        let wrong : true ≡ false = sym first-inside ∙ ap (covers network) (sym same) ∙ not-true (covers network other.0) outer in
        absurd (cc))))

    pub one-gone : (old : List (Block × V)) → AreGone old now → (new : List (Block × V)) → new ≡ without_route now route.0 → AreGone old new
    one-gone old so_far new is = record {
      gone = so_far.gone ++ route ∷ [];
      first =
          so_far.first
          ∙ ap (λ more. so_far.gone ++ more) (next ∙ ap (λ more. route ∷ more) (sym (ap (covered network) is ∙ rest-covered)))
          ∙ sym (append_assoc so_far.gone (route ∷ []) (covered network new));
      others = ap (without_covered network) is ∙ same-others ∙ so_far.others;
    }

    -- there are fewer of them
    pub fewer-left : (new : List (Block × V)) → new ≡ without_route now route.0 → length (covered network new) < length (covered network now)
    fewer-left new is = let many = ap length next in let few = ap length (ap (covered network) is ∙ rest-covered) in omega (arith, many, few)

    -- a removal that is refused leaves it, and those behind it
    pub loses-first : (old : List (Block × V)) → AreGone old now → (new : List (Block × V)) → new ≡ now → (needs_node : Block → Type 0) → needs_node route.0 → LosesFirstCovered network needs_node old new
    loses-first old so_far new same needs_node needs = record {
      gone = so_far.gone;
      refused = route;
      rest = rest;
      first = so_far.first ∙ ap (λ more. so_far.gone ++ more) next;
      left = ap (covered network) same ∙ next;
      needs = needs;
      others = ap (without_covered network) same ∙ so_far.others;
    }

  -- where none is left inside the network, those outside it are
  pub all-gone : (old now : List (Block × V)) → AreGone old now → covered network now ≡ [] → now ≡ without_covered network old
  all-gone old now so_far none = sym (none-passes is_inside now none) ∙ so_far.others

  -- so many are gone
  pub many-gone : (old new : List (Block × V)) → new ≡ without_covered network old → length old - length new ≡ length (covered network old)
  many-gone old new is =
      let both = length-filter_both is_inside (λ r. not (is_inside r)) (λ r. refl) old in
      let left = ap length is in
      omega (arith, both, left)

  pub no-more : (old new : List (Block × V)) → new ≡ without_covered network old → length new ≤ length old
  no-more old new is =
      let both = length-filter_both is_inside (λ r. not (is_inside r)) (λ r. refl) old in
      let left = ap length is in
      omega (arith, both, left)
