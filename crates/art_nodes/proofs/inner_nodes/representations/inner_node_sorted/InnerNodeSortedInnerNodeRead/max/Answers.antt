use Rattle.std.proofs.Common.{◌<◌, ◌-◌, length, get_or, Some, arith, ap, sym, ◌∙◌}
use Rattle.art_nodes.proofs.SortedLemmas.{length-zip, slice_get-zip, some_bytes, last_below}
use Rattle.art_nodes.proofs.inner_nodes.representations.inner_node_sorted.InnerNodeSortedInnerNodeRead.max.Goals as goal

pub returns-clause-pair : goal.returns-clause-pair
returns-clause-pair g c =
    let count = length-zip _ _ c.self.invariant.beside in
    let some : 0 < length c.self.inside.keys.items = omega (arith, c.requires, ap (λ n. length n.children) c.self.view_is, count) in
    let keys = c.self.inside.keys.items in
    let read = rw (c.deref-2.ensures.0, c.len-last.ensures.value) at c.index-deref-last.is in
    rw (← c.self.view_is, c.to_opaque.ensures, c.deref.ensures.0, c.len-last.ensures.value, count) (slice_get-zip _ _ _ _ _ c.self.invariant.beside (omega arith) ∙ ap (λ child. Some (get_or keys (length keys - 1) 0, child)) (sym read))

pub overflow_sub-last : goal.overflow_sub-last
overflow_sub-last g c = rw c.len-last.ensures.value (some_bytes _ _ c.self.inside.header _ c.self.invariant.beside c.self.view_is c.requires)

pub bounds-deref-last : goal.bounds-deref-last
bounds-deref-last g c = rw (c.len-last.ensures.value, c.deref.ensures.0) (last_below (some_bytes _ _ c.self.inside.header _ c.self.invariant.beside c.self.view_is c.requires))

pub bounds-deref-last-2 : goal.bounds-deref-last-2
bounds-deref-last-2 g c = rw (c.len-last.ensures.value, c.deref-2.ensures.0, c.self.invariant.beside) (last_below (some_bytes _ _ c.self.inside.header _ c.self.invariant.beside c.self.view_is c.requires))
