use Rattle.std.proofs.Common.{◌<◌, length, refl, arith, rules, ap, sym, ◌∙◌}
use Rattle.std.proofs.lemmas.Option.{slice_get_read}
use Rattle.art_nodes.proofs.SortedLemmas.{child_at-zip, child_at-zip_gap, count_fits, not_full, sorted-insert, sorted-set, refill-set, with_child-zip_set, with_child-zip_insert}
use Rattle.art_nodes.proofs.inner_nodes.representations.inner_node_sorted.InnerNodeSorted.insert_child.Goals as goal

pub insert-requires : goal.insert-requires
insert-requires g c =
    let gap = rw c.deref.ensures.0 at c.in-Err.ensures.absent in
    (search rules, (gap.in_range, not_full _ _ _ _ _ c.self.invariant _ _ gap c.args.self.now (ap (λ n. n.children) c.self.view_is) c.requires))

pub insert-requires-in-Err : goal.insert-requires-in-Err
insert-requires-in-Err g c =
    let gap = rw c.deref.ensures.0 at c.in-Err.ensures.absent in
    let below = not_full _ _ _ _ _ c.self.invariant _ _ gap c.args.self.now (ap (λ n. n.children) c.self.view_is) c.requires in
    (search rules, (omega (arith, gap.in_range, c.self.invariant.beside), omega (arith, below, c.self.invariant.beside)))

pub inc_num_children-requires : goal.inc_num_children-requires
inc_num_children-requires g c = omega (arith, count_fits c.self.invariant)

pub invariant_of-self-in-Err : goal.invariant_of-self-in-Err
invariant_of-self-in-Err g c =
    let gap = rw c.deref.ensures.0 at c.in-Err.ensures.absent in
    let below = not_full _ _ _ _ _ c.self.invariant _ _ gap c.args.self.now (ap (λ n. n.children) c.self.view_is) c.requires in
    rw (c.insert.ensures.items, c.insert-in-Err.ensures.items) (sorted-insert _ _ _ _ _ c.self.invariant _ _ gap _ c.ranges.key_fragment.fits below _ c.inc_num_children.ensures)

pub invariant_of-self : goal.invariant_of-self
invariant_of-self g c =
    let at = rw c.deref.ensures.0 at c.in-Ok.ensures.existing in
    rw (c.deref_mut.ensures.value, refill-set) (sorted-set _ _ _ _ _ c.self.invariant _ _ at _ c.ranges.key_fragment.fits (rw (← c.self.view_is) at c.requires))

pub returns-in-Ok : goal.returns-in-Ok
returns-in-Ok g c =
    let at = rw c.deref.ensures.0 at c.in-Ok.ensures.existing in
    let in_range : c.in-Ok.index < length c.self.inside.child_pointers.items = omega (arith, at.in_range, c.self.invariant.beside) in
    let read = rw c.deref-in-Ok.ensures.0 at c.index-deref-index.is in
    record {
      old_child = rw (← c.self.view_is, c.to_opaque-old_child.ensures) (sym (child_at-zip 0 _ _ _ _ c.self.invariant.beside c.self.invariant.ascending at ∙ slice_get_read _ _ _ _ refl in_range read));
      written = rw (← c.self.view_is, ← c.new.ensures, c.deref_mut.ensures.value, refill-set) (ap (λ children. record { prefix_len = c.self.inside.header.prefix_len; stored = c.self.inside.header.stored; children = children }) (sym (with_child-zip_set 0 _ _ _ _ _ c.self.invariant.beside c.self.invariant.ascending at)));
    }

pub returns-in-Err : goal.returns-in-Err
returns-in-Err g c =
    let gap = rw c.deref.ensures.0 at c.in-Err.ensures.absent in
    record {
      old_child = rw (← c.self.view_is) (sym (child_at-zip_gap 0 _ _ _ _ c.self.invariant.beside c.self.invariant.ascending gap));
      written = rw (← c.self.view_is, ← c.new-in-Err.ensures, c.inc_num_children.ensures, c.insert.ensures.items, c.insert-in-Err.ensures.items) (ap (λ children. record { prefix_len = c.self.inside.header.prefix_len; stored = c.self.inside.header.stored; children = children }) (sym (with_child-zip_insert 0 _ _ _ _ _ c.self.invariant.beside c.self.invariant.ascending gap)));
    }
