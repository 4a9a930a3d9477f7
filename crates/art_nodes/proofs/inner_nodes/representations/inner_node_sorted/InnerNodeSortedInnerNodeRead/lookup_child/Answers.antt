use Rattle.std.proofs.Common.{◌<◌, length, arith, refl, sym, ◌∙◌}
use Rattle.std.proofs.lemmas.Option.{slice_get_read}
use Rattle.art_nodes.proofs.SortedLemmas.{child_at-zip, child_at-zip_absent}
use Rattle.art_nodes.proofs.inner_nodes.representations.inner_node_sorted.InnerNodeSortedInnerNodeRead.lookup_child.Goals as goal

pub returns-clause-child : goal.returns-clause-child
returns-clause-child g c =
    let at = rw c.deref.ensures.0 at c.in_ok-index.ensures.found in
    let in_range : c.in_ok-index.index < length c.self.inside.child_pointers.items = omega (arith, at.in_range, c.self.invariant.beside) in
    let read = rw c.deref-2.ensures.0 at c.index-deref-index.is in
    rw (← c.self.view_is, c.to_opaque.ensures) (sym (child_at-zip 0 _ _ _ _ c.self.invariant.beside c.self.invariant.ascending at ∙ slice_get_read _ _ _ _ refl in_range read))

pub returns-in_err-index-clause-child : goal.returns-in_err-index-clause-child
returns-in_err-index-clause-child g c =
    let absent = rw c.deref.ensures.0 at c.in_err-index.ensures.absent in
    c.from_residual.ensures ∙ rw (← c.self.view_is) (sym (child_at-zip_absent _ _ _ c.self.invariant.beside absent))
