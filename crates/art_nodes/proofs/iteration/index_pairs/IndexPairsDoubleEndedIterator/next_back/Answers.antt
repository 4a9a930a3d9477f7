use Rattle.std.proofs.Common.{length, length-append, map, take, slice_get, refl, ◌∙◌, ap, subst, arith}
use Rattle.std.proofs.lemmas.List.{length-take, take-map}
use Rattle.art_nodes.specs.ChildMap.{table_children}
use Rattle.art_nodes.specs.IndexTable.{index_of}
use Rattle.art_nodes.specs.IndirectNode.{AreBelow}
use Rattle.art_nodes.proofs.IndirectLemmas.{none-named, next_back-named, below-take, used_below}
use Rattle.art_nodes.proofs.ListLemmas.{slice_get-push_at}
use Rattle.art_nodes.proofs.iteration.index_pairs.IndexPairsDoubleEndedIterator.next_back.Goals as goal

pub returns-in_err-place-clause-steps : goal.returns-in_err-place-clause-steps
returns-in_err-place-clause-steps g c =
    let none = none-named c.self.inside.children.now c.self.inside.byte (map index_of c.self.inside.places.now) c.self.invariant.1 (c.in_err-place.ensures.empty c.self.inside.byte) in
    rw (c.from_residual.ensures, ← c.self.view_is) (none, none)

pub named_child-child-requires : goal.named_child-child-requires
named_child-child-requires g c =
    let indices = map index_of c.self.inside.places.now in
    let front = table_children c.self.inside.byte (map index_of (take c.in_ok-place.place c.self.inside.places.now)) in
    let found = c.in_ok-place.ensures.found c.self.inside.byte in
    used_below _ c.self.inside.byte indices (length front) _ c.in_ok-place.index c.self.invariant.1 (ap (λ pairs. slice_get pairs (length front)) found ∙ slice_get-push_at front (length front) _ refl)

pub returns-clause-steps : goal.returns-clause-steps
returns-clause-steps g c =
    let places = c.self.inside.places.now in
    let children = c.self.inside.children.now in
    let place = c.in_ok-place.place in
    let found = c.in_ok-place.ensures.found c.self.inside.byte in
    let earlier = subst (AreBelow (length children)) (take-map index_of place places) (below-take _ place (map index_of places) c.self.invariant.1) in
    rw (← c.self.view_is) (next_back-named children c.self.inside.byte (map index_of places) c.self.invariant.1 _ c.in_ok-place.index c.named_child-child.result (map index_of (take place places)) earlier found c.named_child-child.ensures)

pub invariant_of-self : goal.invariant_of-self
invariant_of-self g c =
    let places = c.self.inside.places.now in
    let place = c.in_ok-place.place in
    let earlier = subst (AreBelow (length c.self.inside.children.now)) (take-map index_of place places) (below-take _ place (map index_of places) c.self.invariant.1) in
    (omega (arith, length-take place places, c.self.invariant.0), earlier)

pub returns-clause-goes : goal.returns-clause-goes
returns-clause-goes g c = record { on = λ _. (tt, tt, omega (arith, simp length-append at (ap length (returns-clause-steps g c)), ap length c.self.view_is)); keeps = tt; rests = λ _. tt }
