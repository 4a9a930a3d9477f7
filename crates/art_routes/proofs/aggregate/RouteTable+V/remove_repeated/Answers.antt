use Rattle.std.proofs.Common.{inr, refl, subst, sym, length, ◌<◌}
use Rattle.art_nodes.specs.declared.pointers.OpaqueNodePtr.{OpaqueNodePtr as Pointer}
use Rattle.art_routes.specs.Aggregates.{MatchAlike, NeedsMemory}
use Rattle.art_routes.specs.Networks.{Block}
use Rattle.art_routes.proofs.AggregateLemmas.{alike-itself, err-is, removed-alike, without-fewer}
use Rattle.art_routes.proofs.aggregate.RouteTable+V.remove_repeated.Goals as goal

pub returns-in_err-remove-clause-same_matches : goal.returns-in_err-remove-clause-same_matches
returns-in_err-remove-clause-same_matches g c = λ address.
    subst (λ routes. MatchAlike g.V.PartialEq.eq c.args.self.now routes address) (sym c.in_err-remove.ensures.same_routes) (alike-itself g.V.PartialEq.eq c.args.self.now address)

pub returns-clause-same_matches : goal.returns-clause-same_matches
returns-clause-same_matches g c = λ address.
    let (value, parent, listed, above, alike) = c.requires.covered in
    subst (λ routes. MatchAlike g.V.PartialEq.eq c.args.self.now routes address) (sym c.in_ok-remove.ensures.routes)
    (removed-alike g.V.PartialEq.eq c.args.self.now c.routes_ascend.ensures.order c.routes_ascend.ensures.networks address (c.args.network.now, value) parent listed above alike)

pub returns-clause-fewer : goal.returns-clause-fewer
returns-clause-fewer g c =
    let (value, parent, listed, above, alike) = c.requires.covered in
    subst (λ routes. length routes < length c.args.self.now) (sym c.in_ok-remove.ensures.routes)
    (without-fewer g.V.PartialEq.eq c.args.self.now c.args.network.now (c.args.network.now, value) listed refl)

pub returns-in_err-remove-clause-refused : goal.returns-in_err-remove-clause-refused
returns-in_err-remove-clause-refused g c =
    let (value, parent, listed, above, alike) = c.requires.covered in
    err-is c.from_residual.result
    (subst (λ routes. NeedsMemory g.V.PartialEq.eq (Pointer Block g.row.V.Denot 20) routes) (sym c.in_err-remove.ensures.same_routes)
    (inr (record { route = (c.args.network.now, value); parent = parent; listed = listed; above = above; same_value = alike; needs_node = c.in_err-remove.ensures.needs_node })))
