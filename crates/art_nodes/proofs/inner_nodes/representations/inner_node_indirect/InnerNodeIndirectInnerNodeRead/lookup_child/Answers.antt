use Rattle.std.proofs.Common.{◌<◌, length, get_or, Some, ap, sym, ◌∙◌, arith, rules}
use Rattle.art_nodes.proofs.IndirectLemmas.{named_within, child_at-named, child_at-unnamed}
use Rattle.art_nodes.proofs.inner_nodes.representations.inner_node_indirect.InnerNodeIndirectInnerNodeRead.lookup_child.Goals as goal

pub offset_bounds-deref-from : goal.offset_bounds-deref-from
offset_bounds-deref-from g c =
    let indices = c.self.inside.child_indices in
    let within : c.args.key_fragment < length indices = omega (arith, c.self.invariant.places, c.ranges.key_fragment.fits) in
    let named = named_within indices _ c.args.key_fragment c.in_ok-index.index c.self.invariant.named_once within (sym c.in_ok-index.ensures) in
    let small : c.from.result < 255 = omega (arith, named, c.from.ensures, c.self.invariant.fits) in
    search rules

pub bounds-deref-from : goal.bounds-deref-from
bounds-deref-from g c =
    let indices = c.self.inside.child_indices in
    let within : c.args.key_fragment < length indices = omega (arith, c.self.invariant.places, c.ranges.key_fragment.fits) in
    let named = named_within indices _ c.args.key_fragment c.in_ok-index.index c.self.invariant.named_once within (sym c.in_ok-index.ensures) in
    rw c.deref.ensures.0 (omega (arith, named, c.from.ensures))

pub returns-clause-child : goal.returns-clause-child
returns-clause-child g c =
    let indices = c.self.inside.child_indices in
    let within : c.args.key_fragment < length indices = omega (arith, c.self.invariant.places, c.ranges.key_fragment.fits) in
    let filled = sym c.in_ok-index.ensures in
    let named = named_within indices _ c.args.key_fragment c.in_ok-index.index c.self.invariant.named_once within filled in
    let pointers = c.self.inside.child_pointers.items in
    let child = c.index-deref-from.result in
    let read = (rw c.deref.ensures.0 at c.index-deref-from.is) ∙ ap (λ n. get_or pointers n child) (sym c.from.ensures) in
    rw (← c.self.view_is, c.to_opaque.ensures) (ap Some read ∙ sym (child_at-named pointers indices c.args.key_fragment c.in_ok-index.index child within (omega (arith, c.self.invariant.places)) filled named))

pub returns-in_err-index-clause-child : goal.returns-in_err-index-clause-child
returns-in_err-index-clause-child g c =
    let indices = c.self.inside.child_indices in
    let within : c.args.key_fragment < length indices = omega (arith, c.self.invariant.places, c.ranges.key_fragment.fits) in
    let empty = sym c.in_err-index.ensures in
    c.from_residual.ensures ∙ rw (← c.self.view_is) (sym (child_at-unnamed c.self.inside.child_pointers.items indices c.args.key_fragment within (omega (arith, c.self.invariant.places)) empty))
