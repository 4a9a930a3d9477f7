use Rattle.std.proofs.Common.{◌<◌, length, arith, rules, ap, refl, sym, ◌∙◌}
use Rattle.std.proofs.lemmas.Option.{slice_get_read}
use Rattle.art_nodes.proofs.SortedLemmas.{bytes_counted, child_at-zip, child_at-zip_gap, without_child-zip_remove, without_child-zip_gap, sorted-remove}
use Rattle.art_nodes.proofs.inner_nodes.representations.inner_node_sorted.InnerNodeSortedInnerNodeCommon.remove_child.Goals as goal

pub invariant_of-self : goal.invariant_of-self
invariant_of-self g c =
    let at = rw c.deref.ensures.0 at c.in-Ok.ensures.existing in
    rw (c.remove.ensures.items, c.remove-in-Ok.ensures.items) (sorted-remove _ _ _ _ _ c.self.invariant _ _ at _ c.dec_num_children.ensures)

pub returns-in-Ok-clause-child : goal.returns-in-Ok-clause-child
returns-in-Ok-clause-child g c =
    let at = rw c.deref.ensures.0 at c.in-Ok.ensures.existing in
    let in_range : c.in-Ok.index < length c.self.inside.child_pointers.items = omega (arith, at.in_range, c.self.invariant.beside) in
    rw (← c.self.view_is, c.to_opaque.ensures) (sym (child_at-zip 0 _ _ _ _ c.self.invariant.beside c.self.invariant.ascending at ∙ slice_get_read _ _ _ _ refl in_range c.remove-in-Ok.ensures.value))

pub returns-in-Ok-clause-removed : goal.returns-in-Ok-clause-removed
returns-in-Ok-clause-removed g c =
    let at = rw c.deref.ensures.0 at c.in-Ok.ensures.existing in
    rw (← c.self.view_is, c.dec_num_children.ensures, c.remove.ensures.items, c.remove-in-Ok.ensures.items) (ap (λ children. record { prefix_len = c.self.inside.header.prefix_len; stored = c.self.inside.header.stored; children = children }) (sym (without_child-zip_remove 0 _ _ _ _ c.self.invariant.beside c.self.invariant.ascending at)))

pub returns-in-Err-clause-child : goal.returns-in-Err-clause-child
returns-in-Err-clause-child g c =
    let gap = rw c.deref.ensures.0 at c.in-Err.ensures.absent in
    rw (← c.self.view_is) (sym (child_at-zip_gap 0 _ _ _ _ c.self.invariant.beside c.self.invariant.ascending gap))

pub returns-in-Err-clause-removed : goal.returns-in-Err-clause-removed
returns-in-Err-clause-removed g c =
    let gap = rw c.deref.ensures.0 at c.in-Err.ensures.absent in
    rw (← c.self.view_is) (ap (λ children. record { prefix_len = c.self.inside.header.prefix_len; stored = c.self.inside.header.stored; children = children }) (sym (without_child-zip_gap 0 _ _ _ _ c.self.invariant.beside c.self.invariant.ascending gap)))

pub find_write_point-requires : goal.find_write_point-requires
find_write_point-requires g c = rw c.deref.ensures.0 c.self.invariant.ascending

pub remove-requires : goal.remove-requires
remove-requires g c =
    let at = rw c.deref.ensures.0 at c.in-Ok.ensures.existing in
    (search rules, at.in_range)

pub dec_num_children-requires : goal.dec_num_children-requires
dec_num_children-requires g c =
    let at = rw c.deref.ensures.0 at c.in-Ok.ensures.existing in
    (search rules, omega (arith, at.in_range, bytes_counted c.self.invariant))

pub remove-requires-in-Ok : goal.remove-requires-in-Ok
remove-requires-in-Ok g c =
    let at = rw c.deref.ensures.0 at c.in-Ok.ensures.existing in
    (search rules, omega (arith, at.in_range, c.self.invariant.beside))

pub returns-in-Ok-clause-sound : goal.returns-in-Ok-clause-sound
returns-in-Ok-clause-sound g c = rw (← c.self.view_is) c.self.invariant.sound

pub returns-in-Err-clause-sound : goal.returns-in-Err-clause-sound
returns-in-Err-clause-sound g c = rw (← c.self.view_is) c.self.invariant.sound
