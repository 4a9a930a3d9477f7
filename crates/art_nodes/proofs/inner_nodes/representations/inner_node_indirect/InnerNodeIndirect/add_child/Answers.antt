use Rattle.std.proofs.Common.{◌≡◌, ◌+◌, ◌<◌, length, set, Some, refl, sym, ◌∙◌, subst, arith, rules}
use Rattle.std.proofs.lemmas.List.{length-set}
use Rattle.art_nodes.specs.ChildMap.{table_children}
use Rattle.art_nodes.specs.Inner.{IsInner, indirect_room, inner_with}
use Rattle.art_nodes.specs.IndirectNode.{named_pointers}
use Rattle.art_nodes.proofs.ChildMapLaws.{sound_written}
use Rattle.art_nodes.proofs.IndirectLemmas.{indirect_fields, pointers_counted, IsNamedOnce, length-named, named_once-push, kept-push, unnamed-absent, with_child-pushed}
use Rattle.art_nodes.proofs.inner_nodes.representations.inner_node_indirect.InnerNodeIndirect.add_child.Goals as goal

pub new_unchecked-index-requires : goal.new_unchecked-index-requires
new_unchecked-index-requires g c =
    let pointers = c.self.inside.child_pointers.items in
    let indices = c.self.inside.child_indices in
    let within : c.args.key_fragment < length indices = omega (arith, c.self.invariant.places, c.ranges.key_fragment.fits) in
    let empty = unnamed-absent pointers indices c.args.key_fragment c.args.child_pointer c.self.invariant.named_once within (omega (arith, c.self.invariant.places)) (rw (← c.self.view_is) at c.requires.absent) in
    let room : length pointers < indirect_room g.row.SIZE = omega (arith, rw (← c.self.view_is) at c.requires.room, length-named pointers indices c.self.invariant.named_once) in
    omega (arith, room, c.len.ensures.value)

pub push-requires : goal.push-requires
push-requires g c =
    let pointers = c.self.inside.child_pointers.items in
    let indices = c.self.inside.child_indices in
    let within : c.args.key_fragment < length indices = omega (arith, c.self.invariant.places, c.ranges.key_fragment.fits) in
    let empty = unnamed-absent pointers indices c.args.key_fragment c.args.child_pointer c.self.invariant.named_once within (omega (arith, c.self.invariant.places)) (rw (← c.self.view_is) at c.requires.absent) in
    let room : length pointers < indirect_room g.row.SIZE = omega (arith, rw (← c.self.view_is) at c.requires.room, length-named pointers indices c.self.invariant.named_once) in
    (search rules, omega (arith, room, c.self.invariant.beside))

pub push-requires-2 : goal.push-requires-2
push-requires-2 g c =
    let pointers = c.self.inside.child_pointers.items in
    let indices = c.self.inside.child_indices in
    let within : c.args.key_fragment < length indices = omega (arith, c.self.invariant.places, c.ranges.key_fragment.fits) in
    let empty = unnamed-absent pointers indices c.args.key_fragment c.args.child_pointer c.self.invariant.named_once within (omega (arith, c.self.invariant.places)) (rw (← c.self.view_is) at c.requires.absent) in
    let room : length pointers < indirect_room g.row.SIZE = omega (arith, rw (← c.self.view_is) at c.requires.room, length-named pointers indices c.self.invariant.named_once) in
    (search rules, omega (arith, room))

pub invariant_of-self : goal.invariant_of-self
invariant_of-self g c =
    let pointers = c.self.inside.child_pointers.items in
    let indices = c.self.inside.child_indices in
    let bytes = c.self.inside.keys.items in
    let within : c.args.key_fragment < length indices = omega (arith, c.self.invariant.places, c.ranges.key_fragment.fits) in
    let empty = unnamed-absent pointers indices c.args.key_fragment c.args.child_pointer c.self.invariant.named_once within (omega (arith, c.self.invariant.places)) (rw (← c.self.view_is) at c.requires.absent) in
    let room : length pointers < indirect_room g.row.SIZE = omega (arith, rw (← c.self.view_is) at c.requires.room, length-named pointers indices c.self.invariant.named_once) in
    let index : c.new_unchecked-index.result ≡ length pointers = c.new_unchecked-index.ensures ∙ c.len.ensures.value in
    let grown : length pointers + 1 ≡ length c.push-2.new.self.items = sym c.push-2.ensures.len in
    let once = named_once-push indices (length pointers) c.args.key_fragment c.self.invariant.named_once within empty in
    let header = c.self.inside.header in
    let children = table_children 0 (named_pointers pointers indices) in
    let written = with_child-pushed pointers indices c.args.key_fragment c.self.invariant.places within c.args.child_pointer c.self.invariant.named_once in
    let sound = subst (λ cs. IsInner g.row.PREFIX_LEN (indirect_room g.row.SIZE) (inner_with header cs)) written (sound_written g.row.PREFIX_LEN (indirect_room g.row.SIZE) (inner_with header children) c.args.key_fragment c.args.child_pointer c.self.invariant.sound c.ranges.key_fragment.fits (λ none. rw (← c.self.view_is) at c.requires.room)) in
    rw c.set.ensures (indirect_fields _ _ _ _ _ _
    (simp length-set c.self.invariant.places)
    (rw c.inc_num_children.ensures (omega (arith, pointers_counted c.self.invariant, grown)))
    (omega (arith, room, grown))
    (rw index (subst (IsNamedOnce (set indices c.args.key_fragment (Some (length pointers)))) grown once))
    (omega (arith, c.self.invariant.beside, c.push.ensures.len, grown))
    (rw (index, c.push.ensures.items, ← c.self.invariant.beside) (kept-push indices bytes c.args.key_fragment c.self.invariant.kept within empty))
    (rw (c.inc_num_children.ensures, c.push-2.ensures.items, index, c.new.ensures) sound))

pub returns : goal.returns
returns g c =
    let pointers = c.self.inside.child_pointers.items in
    let indices = c.self.inside.child_indices in
    let within : c.args.key_fragment < length indices = omega (arith, c.self.invariant.places, c.ranges.key_fragment.fits) in
    let empty = unnamed-absent pointers indices c.args.key_fragment c.args.child_pointer c.self.invariant.named_once within (omega (arith, c.self.invariant.places)) (rw (← c.self.view_is) at c.requires.absent) in
    let index : c.new_unchecked-index.result ≡ length pointers = c.new_unchecked-index.ensures ∙ c.len.ensures.value in
    let written = with_child-pushed pointers indices c.args.key_fragment c.self.invariant.places within c.args.child_pointer c.self.invariant.named_once in
    rw (← c.self.view_is, c.set.ensures, c.inc_num_children.ensures, c.push-2.ensures.items, index, c.new.ensures, written) refl
