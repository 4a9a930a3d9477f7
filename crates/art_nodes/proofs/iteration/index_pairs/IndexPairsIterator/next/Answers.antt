use Rattle.std.proofs.Common.{◌+◌, ◌<◌, length, map, drop, slice_get, ap, subst, arith}
use Rattle.std.proofs.lemmas.List.{drop-map, length-drop, take_rest}
use Rattle.art_nodes.specs.IndexTable.{index_of}
use Rattle.art_nodes.specs.IndirectNode.{AreBelow}
use Rattle.art_nodes.proofs.IndirectLemmas.{none-named, next-named, below-drop, used_below}
use Rattle.art_nodes.proofs.iteration.index_pairs.IndexPairsIterator.next.Goals as goal

pub returns-in_err-place-clause-steps : goal.returns-in_err-place-clause-steps
returns-in_err-place-clause-steps g c =
    let none = none-named c.self.inside.children.now c.self.inside.byte (map index_of c.self.inside.places.now) c.self.invariant.1 (c.in_err-place.ensures.empty c.self.inside.byte) in
    rw (c.from_residual.ensures, ← c.self.view_is) (none, none)

pub named_child-child-requires : goal.named_child-child-requires
named_child-child-requires g c =
    let found = c.in_ok-place.ensures.found c.self.inside.byte in
    used_below _ c.self.inside.byte (map index_of c.self.inside.places.now) 0 _ c.in_ok-place.index c.self.invariant.1 (ap (λ pairs. slice_get pairs 0) found)

pub returns-clause-steps : goal.returns-clause-steps
returns-clause-steps g c =
    let places = c.self.inside.places.now in
    let children = c.self.inside.children.now in
    let rest = c.in_ok-place.place + 1 in
    let found = c.in_ok-place.ensures.found c.self.inside.byte in
    let later = subst (AreBelow (length children)) (drop-map index_of rest places) (below-drop _ rest (map index_of places) c.self.invariant.1) in
    rw (← c.self.view_is, take_rest places rest) (next-named children c.self.inside.byte (map index_of places) c.self.invariant.1 _ c.in_ok-place.index _ c.named_child-child.result (map index_of (drop rest places)) later found c.named_child-child.ensures)

pub invariant_of-self : goal.invariant_of-self
invariant_of-self g c =
    let places = c.self.inside.places.now in
    let children = c.self.inside.children.now in
    let rest = c.in_ok-place.place + 1 in
    let within : c.in_ok-place.place < length places = c.in_ok-place.ensures.in_range in
    let later = subst (AreBelow (length children)) (drop-map index_of rest places) (below-drop _ rest (map index_of places) c.self.invariant.1) in
    rw (take_rest places rest) (omega (arith, length-drop rest places, c.self.invariant.0, within), later)

pub returns-clause-goes : goal.returns-clause-goes
returns-clause-goes g c = record { on = λ _. (tt, tt, omega (arith, ap length (returns-clause-steps g c), ap length c.self.view_is)); keeps = tt; rests = λ _. tt }
