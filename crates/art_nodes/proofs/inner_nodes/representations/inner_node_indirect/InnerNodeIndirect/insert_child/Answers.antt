use Rattle.std.proofs.Common.{◌≡◌, ◌<◌, length, get_or, set, drop, Some, refl, ap, sym, ◌∙◌, subst, arith, rules}
use Rattle.std.proofs.lemmas.List.{length-set, take_at}
use Rattle.art_nodes.specs.ChildMap.{table_children}
use Rattle.art_nodes.specs.Inner.{IsInner, indirect_room, inner_with}
use Rattle.art_nodes.specs.IndirectNode.{named_pointers}
use Rattle.art_nodes.proofs.ChildMapLaws.{sound_written}
use Rattle.art_nodes.proofs.IndirectLemmas.{child_at-named, child_at-unnamed, indirect_fields, pointers_counted, IsNamedOnce, named_within, with_child-named}
use Rattle.art_nodes.proofs.inner_nodes.representations.inner_node_indirect.InnerNodeIndirect.insert_child.Goals as goal

pub offset_bounds-deref-place : goal.offset_bounds-deref-place
offset_bounds-deref-place g c =
    let indices = c.self.inside.child_indices in
    let within : c.args.key_fragment < length indices = omega (arith, c.self.invariant.places, c.ranges.key_fragment.fits) in
    let named = named_within indices _ c.args.key_fragment c.in-Some.index c.self.invariant.named_once within (sym c.in-Some.ensures) in
    let small : c.from-place.result < 255 = omega (arith, named, c.from-place.ensures, c.self.invariant.fits) in
    search rules

pub bounds-deref-place : goal.bounds-deref-place
bounds-deref-place g c =
    let indices = c.self.inside.child_indices in
    let within : c.args.key_fragment < length indices = omega (arith, c.self.invariant.places, c.ranges.key_fragment.fits) in
    let named = named_within indices _ c.args.key_fragment c.in-Some.index c.self.invariant.named_once within (sym c.in-Some.ensures) in
    rw c.deref.ensures.0 (omega (arith, named, c.from-place.ensures))

pub bounds-deref_mut-place : goal.bounds-deref_mut-place
bounds-deref_mut-place g c =
    let indices = c.self.inside.child_indices in
    let within : c.args.key_fragment < length indices = omega (arith, c.self.invariant.places, c.ranges.key_fragment.fits) in
    let named = named_within indices _ c.args.key_fragment c.in-Some.index c.self.invariant.named_once within (sym c.in-Some.ensures) in
    rw c.deref_mut.ensures.value (omega (arith, named, c.from-place.ensures))

pub invariant_of-self : goal.invariant_of-self
invariant_of-self g c =
    let pointers = c.self.inside.child_pointers.items in
    let indices = c.self.inside.child_indices in
    let within : c.args.key_fragment < length indices = omega (arith, c.self.invariant.places, c.ranges.key_fragment.fits) in
    let filled = sym c.in-Some.ensures in
    let header = c.self.inside.header in
    let children = table_children 0 (named_pointers pointers indices) in
    let over = set pointers c.in-Some.index c.args.child_pointer in
    let same : length over ≡ length pointers = simp length-set refl in
    let written = with_child-named pointers indices c.args.key_fragment c.self.invariant.places within c.in-Some.index c.args.child_pointer c.self.invariant.named_once filled in
    let sound = subst (λ cs. IsInner g.row.PREFIX_LEN (indirect_room g.row.SIZE) (inner_with header cs)) written (sound_written g.row.PREFIX_LEN (indirect_room g.row.SIZE) (inner_with header children) c.args.key_fragment c.args.child_pointer c.self.invariant.sound c.ranges.key_fragment.fits (rw (← c.self.view_is) at c.requires)) in
    let whole = take_at over (drop (length over) pointers) (length pointers) (simp length-set) in
    let fields = indirect_fields g.row.PREFIX_LEN (indirect_room g.row.SIZE) header indices c.self.inside.keys.items over c.self.invariant.places (omega (arith, pointers_counted c.self.invariant, same)) (omega (arith, c.self.invariant.fits, same)) (subst (IsNamedOnce indices) (sym same) c.self.invariant.named_once) (omega (arith, c.self.invariant.beside, same)) c.self.invariant.kept sound in
    rw (c.deref_mut.ensures.value, ← c.from-place.ensures, c.new.ensures, whole) fields

pub returns-in-Some : goal.returns-in-Some
returns-in-Some g c =
    let pointers = c.self.inside.child_pointers.items in
    let indices = c.self.inside.child_indices in
    let within : c.args.key_fragment < length indices = omega (arith, c.self.invariant.places, c.ranges.key_fragment.fits) in
    let filled = sym c.in-Some.ensures in
    let written = with_child-named pointers indices c.args.key_fragment c.self.invariant.places within c.in-Some.index c.args.child_pointer c.self.invariant.named_once filled in
    let over = set pointers c.in-Some.index c.args.child_pointer in
    let whole = take_at over (drop (length over) pointers) (length pointers) (simp length-set) in
    let named = named_within indices _ c.args.key_fragment c.in-Some.index c.self.invariant.named_once within filled in
    let child = c.index-deref-place.result in
    let read = (rw c.deref.ensures.0 at c.index-deref-place.is) ∙ ap (λ n. get_or pointers n child) (sym c.from-place.ensures) in
    record {
      old_child = rw (← c.self.view_is, c.to_opaque-old_child.ensures) (ap Some read ∙ sym (child_at-named pointers indices c.args.key_fragment c.in-Some.index child within (omega (arith, c.self.invariant.places)) filled named));
      written = rw (← c.self.view_is, c.deref_mut.ensures.value, ← c.from-place.ensures, c.new.ensures, whole, written) refl;
    }

pub returns-in-None-clause-old_child : goal.returns-in-None-clause-old_child
returns-in-None-clause-old_child g c =
    let indices = c.self.inside.child_indices in
    let within : c.args.key_fragment < length indices = omega (arith, c.self.invariant.places, c.ranges.key_fragment.fits) in
    rw (← c.self.view_is) (sym (child_at-unnamed c.self.inside.child_pointers.items indices c.args.key_fragment within (omega (arith, c.self.invariant.places)) (sym c.in-None.ensures)))

pub add_child-requires : goal.add_child-requires
add_child-requires g c =
    let pointers = c.self.inside.child_pointers.items in
    let indices = c.self.inside.child_indices in
    let within : c.args.key_fragment < length indices = omega (arith, c.self.invariant.places, c.ranges.key_fragment.fits) in
    let absent = child_at-unnamed pointers indices c.args.key_fragment within (omega (arith, c.self.invariant.places)) (sym c.in-None.ensures) in
    let asks = rw (← c.self.view_is) at c.requires in (
      search,
      (
        search,
        (
          rw (← c.self.view_is) absent,
          rw (← c.self.view_is) (asks (rw absent refl)),
        ),
      ),
    )
