use Rattle.std.proofs.Common.{◌∙◌, ap, arith, inl, rules, length, subst, sym}
use Rattle.art_nodes.specs.declared.pointers.OpaqueNodePtr.{OpaqueNodePtr as Pointer}
use Rattle.art_routes.specs.Aggregates.{MatchAlike, NeedsMemory}
use Rattle.art_routes.specs.Networks.{Block}
use Rattle.art_routes.specs.Tables.{without_route}
use Rattle.art_routes.proofs.AggregateLemmas.{alike-itself, alike-trans, left-covered, put-alike, put-more, right-covered}
use Rattle.art_routes.proofs.aggregate.RouteTable+V.merge.Goals as goal

pub returns-in-Err-clause-same_matches : goal.returns-in-Err-clause-same_matches
returns-in-Err-clause-same_matches g c = λ address.
    subst (λ routes. MatchAlike g.V.PartialEq.eq c.args.self.now routes address) (sym c.in-Err.ensures.same_routes) (alike-itself g.V.PartialEq.eq c.args.self.now address)

pub remove_repeated-requires : goal.remove_repeated-requires
remove_repeated-requires g c =
    let (other, left_there, halves, same) = c.requires.left in
    (search rules, (search rules, (search rules, (search rules, (search rules, left-covered g.V.PartialEq.eq c.args.self.now c.args.left.now c.args.right.now c.args.whole other c.args.value left_there c.requires.right halves c.insert.new.self c.in-Ok.ensures.routes same)))))

pub returns-in_err-remove_repeated-clause-same_matches : goal.returns-in_err-remove_repeated-clause-same_matches
returns-in_err-remove_repeated-clause-same_matches g c = λ address.
    let (other, left_there, halves, same) = c.requires.left in
    let put = put-alike g.V.PartialEq.eq c.args.self.now c.routes_ascend.ensures.order c.routes_ascend.ensures.networks address (c.args.left.now, other) (c.args.right.now, c.args.value) c.args.whole c.args.value left_there c.requires.right halves in
    alike-trans g.V.PartialEq.eq g.met.V.PartialEq.laws.trans c.args.self.now c.insert.new.self c.remove_repeated.new.self c.routes_ascend-2.ensures.order c.routes_ascend-2.ensures.networks address
    (subst (λ routes. MatchAlike g.V.PartialEq.eq c.args.self.now routes address) (sym c.in-Ok.ensures.routes) put) (c.remove_repeated.ensures.same_matches address)

pub remove_repeated-requires-2 : goal.remove_repeated-requires-2
remove_repeated-requires-2 g c =
    let (other, left_there, halves, same) = c.requires.left in (
      search rules,
      (
        search rules,
        (
          search rules,
          (
            search rules,
            (
              search rules,
              right-covered g.V.PartialEq.eq c.args.self.now c.args.left.now c.args.right.now c.args.whole other c.args.value left_there c.requires.right halves c.remove_repeated.new.self
                  (c.in_ok-remove_repeated.ensures.routes ∙ ap (λ routes. without_route routes c.args.left.now) c.in-Ok.ensures.routes),
            ),
          ),
        ),
      ),
    )

pub returns-in_err-remove_repeated-2-clause-same_matches : goal.returns-in_err-remove_repeated-2-clause-same_matches
returns-in_err-remove_repeated-2-clause-same_matches g c = λ address.
    let (other, left_there, halves, same) = c.requires.left in
    let put = put-alike g.V.PartialEq.eq c.args.self.now c.routes_ascend.ensures.order c.routes_ascend.ensures.networks address (c.args.left.now, other) (c.args.right.now, c.args.value) c.args.whole c.args.value left_there c.requires.right halves in
    alike-trans g.V.PartialEq.eq g.met.V.PartialEq.laws.trans c.args.self.now c.remove_repeated.new.self c.remove_repeated-2.new.self c.routes_ascend-3.ensures.order c.routes_ascend-3.ensures.networks address
    (alike-trans g.V.PartialEq.eq g.met.V.PartialEq.laws.trans c.args.self.now c.insert.new.self c.remove_repeated.new.self c.routes_ascend-2.ensures.order c.routes_ascend-2.ensures.networks address
    (subst (λ routes. MatchAlike g.V.PartialEq.eq c.args.self.now routes address) (sym c.in-Ok.ensures.routes) put) (c.remove_repeated.ensures.same_matches address))
    (c.remove_repeated-2.ensures.same_matches address)

pub returns-clause-same_matches : goal.returns-clause-same_matches
returns-clause-same_matches g c = λ address.
    let (other, left_there, halves, same) = c.requires.left in
    let put = put-alike g.V.PartialEq.eq c.args.self.now c.routes_ascend.ensures.order c.routes_ascend.ensures.networks address (c.args.left.now, other) (c.args.right.now, c.args.value) c.args.whole c.args.value left_there c.requires.right halves in
    alike-trans g.V.PartialEq.eq g.met.V.PartialEq.laws.trans c.args.self.now c.remove_repeated.new.self c.remove_repeated-2.new.self c.routes_ascend-3.ensures.order c.routes_ascend-3.ensures.networks address
    (alike-trans g.V.PartialEq.eq g.met.V.PartialEq.laws.trans c.args.self.now c.insert.new.self c.remove_repeated.new.self c.routes_ascend-2.ensures.order c.routes_ascend-2.ensures.networks address
    (subst (λ routes. MatchAlike g.V.PartialEq.eq c.args.self.now routes address) (sym c.in-Ok.ensures.routes) put) (c.remove_repeated.ensures.same_matches address))
    (c.remove_repeated-2.ensures.same_matches address)

pub returns-clause-fewer : goal.returns-clause-fewer
returns-clause-fewer g c =
    omega (arith, ap length c.in-Ok.ensures.routes, put-more g.V.PartialEq.eq c.args.self.now c.args.whole c.args.value, c.in_ok-remove_repeated.ensures.fewer, c.in_ok-remove_repeated-2.ensures.fewer)

pub returns-in-Err-clause-refused : goal.returns-in-Err-clause-refused
returns-in-Err-clause-refused g c =
    let (other, left_there, halves, same) = c.requires.left in
    subst (λ routes. NeedsMemory g.V.PartialEq.eq (Pointer Block g.row.V.Denot 20) routes) (sym c.in-Err.ensures.same_routes)
    (inl (record {
      left = (c.args.left.now, other);
      right = (c.args.right.now, c.args.value);
      whole = c.args.whole;
      left_listed = left_there;
      right_listed = c.requires.right;
      are_halves = halves;
      same_value = same;
      no_route = c.in-Err.ensures.no_route;
    }))
