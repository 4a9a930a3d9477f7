use Rattle.std.proofs.Common.{◌<◌, length, get_or, Some, refl, sym, ap, ◌∙◌, arith, rules}
use Rattle.art_nodes.proofs.IndirectLemmas.{pointers_counted, named_within, child_at-named, child_at-unnamed, without_child-unnamed, indirect_removed, without_child-last}
use Rattle.art_nodes.proofs.inner_nodes.representations.inner_node_indirect.InnerNodeIndirectInnerNodeCommon.remove_child.Goals as goal

pub returns-in_err-index-clause-child : goal.returns-in_err-index-clause-child
returns-in_err-index-clause-child g c =
    let indices = c.self.inside.child_indices in
    let within : c.args.key_fragment < length indices = omega (arith, c.self.invariant.places, c.ranges.key_fragment.fits) in
    let empty = sym c.in_err-index.ensures in
    c.from_residual.ensures ∙ rw (← c.self.view_is) (sym (child_at-unnamed c.self.inside.child_pointers.items indices c.args.key_fragment within (omega (arith, c.self.invariant.places)) empty))

pub returns-in_err-index-clause-removed : goal.returns-in_err-index-clause-removed
returns-in_err-index-clause-removed g c =
    let indices = c.self.inside.child_indices in
    let within : c.args.key_fragment < length indices = omega (arith, c.self.invariant.places, c.ranges.key_fragment.fits) in
    let empty = sym c.in_err-index.ensures in
    let same = without_child-unnamed c.self.inside.child_pointers.items indices c.args.key_fragment c.self.invariant.places within empty in
    rw (← c.self.view_is, same) refl

pub dec_num_children-requires : goal.dec_num_children-requires
dec_num_children-requires g c =
    let indices = c.self.inside.child_indices in
    let within : c.args.key_fragment < length indices = omega (arith, c.self.invariant.places, c.ranges.key_fragment.fits) in
    let named = named_within indices _ c.args.key_fragment c.in_ok-index.index c.self.invariant.named_once within (sym c.in_ok-index.ensures) in
    (search rules, omega (arith, named, pointers_counted c.self.invariant))

pub overflow_sub-moved_key : goal.overflow_sub-moved_key
overflow_sub-moved_key g c =
    let indices = c.self.inside.child_indices in
    let within : c.args.key_fragment < length indices = omega (arith, c.self.invariant.places, c.ranges.key_fragment.fits) in
    let filled = sym c.in_ok-index.ensures in
    let named = named_within indices _ c.args.key_fragment c.in_ok-index.index c.self.invariant.named_once within filled in
    omega (arith, named, c.self.invariant.beside, c.len.ensures.value)

pub bounds-deref-len : goal.bounds-deref-len
bounds-deref-len g c =
    let indices = c.self.inside.child_indices in
    let within : c.args.key_fragment < length indices = omega (arith, c.self.invariant.places, c.ranges.key_fragment.fits) in
    let filled = sym c.in_ok-index.ensures in
    let named = named_within indices _ c.args.key_fragment c.in_ok-index.index c.self.invariant.named_once within filled in
    rw c.deref.ensures.0 (omega (arith, named, c.self.invariant.beside, c.len.ensures.value))

pub swap_remove-requires : goal.swap_remove-requires
swap_remove-requires g c =
    let indices = c.self.inside.child_indices in
    let within : c.args.key_fragment < length indices = omega (arith, c.self.invariant.places, c.ranges.key_fragment.fits) in
    let filled = sym c.in_ok-index.ensures in
    let named = named_within indices _ c.args.key_fragment c.in_ok-index.index c.self.invariant.named_once within filled in
    (search rules, omega (arith, named, c.self.invariant.beside, c.from-freed.ensures))

pub swap_remove-requires-2 : goal.swap_remove-requires-2
swap_remove-requires-2 g c =
    let indices = c.self.inside.child_indices in
    let within : c.args.key_fragment < length indices = omega (arith, c.self.invariant.places, c.ranges.key_fragment.fits) in
    let filled = sym c.in_ok-index.ensures in
    let named = named_within indices _ c.args.key_fragment c.in_ok-index.index c.self.invariant.named_once within filled in
    (search rules, omega (arith, named, c.from-freed.ensures))

pub invariant_of-self : goal.invariant_of-self
invariant_of-self g c =
    let indices = c.self.inside.child_indices in
    let within : c.args.key_fragment < length indices = omega (arith, c.self.invariant.places, c.ranges.key_fragment.fits) in
    let filled = sym c.in_ok-index.ensures in
    let removed = indirect_removed c.self.invariant c.args.key_fragment c.in_ok-index.index c.swap_remove-2.result within filled c.swap_remove.result in
    rw (c.clear.ensures, c.set.ensures, c.dec_num_children.ensures, c.swap_remove.ensures.items, c.swap_remove-2.ensures.items, ← c.from-freed.ensures, c.deref.ensures.0, c.len.ensures.value) removed

pub returns-clause-child : goal.returns-clause-child
returns-clause-child g c =
    let pointers = c.self.inside.child_pointers.items in
    let indices = c.self.inside.child_indices in
    let within : c.args.key_fragment < length indices = omega (arith, c.self.invariant.places, c.ranges.key_fragment.fits) in
    let filled = sym c.in_ok-index.ensures in
    let named = named_within indices _ c.args.key_fragment c.in_ok-index.index c.self.invariant.named_once within filled in
    let child = child_at-named pointers indices c.args.key_fragment c.in_ok-index.index c.swap_remove-2.result within (omega (arith, c.self.invariant.places)) filled named in
    rw (← c.self.view_is, c.to_opaque.ensures) (ap Some (c.swap_remove-2.ensures.value ∙ ap (λ n. get_or pointers n c.swap_remove-2.result) (sym c.from-freed.ensures)) ∙ sym child)

pub returns-clause-removed : goal.returns-clause-removed
returns-clause-removed g c =
    let indices = c.self.inside.child_indices in
    let within : c.args.key_fragment < length indices = omega (arith, c.self.invariant.places, c.ranges.key_fragment.fits) in
    let filled = sym c.in_ok-index.ensures in
    let removed = without_child-last c.self.invariant c.args.key_fragment c.in_ok-index.index c.swap_remove-2.result within filled in
    rw (← c.self.view_is, c.clear.ensures, c.set.ensures, c.dec_num_children.ensures, c.swap_remove-2.ensures.items, ← c.from-freed.ensures, c.deref.ensures.0, c.len.ensures.value, removed) refl
