use Rattle.std.proofs.Common.{◌<◌, length, get_or, Some, arith, ap, sym, ◌∙◌}
use Rattle.art_nodes.proofs.SortedLemmas.{length-zip, slice_get-zip, some_bytes}
use Rattle.art_nodes.proofs.inner_nodes.representations.inner_node_sorted.InnerNodeSortedInnerNodeRead.min.Goals as goal

pub returns-clause-pair : goal.returns-clause-pair
returns-clause-pair g c =
    let count = length-zip _ _ c.self.invariant.beside in
    let some : 0 < length c.self.inside.keys.items = omega (arith, c.requires, ap (λ n. length n.children) c.self.view_is, count) in
    let read = rw c.deref-2.ensures.0 at c.index-deref-0.is in
    rw (← c.self.view_is, c.to_opaque.ensures, c.deref.ensures.0) (slice_get-zip _ _ 0 _ _ c.self.invariant.beside some ∙ ap (λ child. Some (get_or c.self.inside.keys.items 0 0, child)) (sym read))

pub bounds-deref-0 : goal.bounds-deref-0
bounds-deref-0 g c = rw c.deref.ensures.0 (some_bytes _ _ c.self.inside.header _ c.self.invariant.beside c.self.view_is c.requires)

pub bounds-deref-0-2 : goal.bounds-deref-0-2
bounds-deref-0-2 g c = rw (c.deref-2.ensures.0, c.self.invariant.beside) (some_bytes _ _ c.self.inside.header _ c.self.invariant.beside c.self.view_is c.requires)
