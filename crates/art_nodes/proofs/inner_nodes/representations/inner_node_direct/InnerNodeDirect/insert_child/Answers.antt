use Rattle.std.proofs.Common.{rules, refl, ◌<◌, length, ap, sym, ◌∙◌, arith, not, true, false}
use Rattle.std.specs.Option.{is_some}
use Rattle.art_nodes.proofs.DirectLemmas.{direct-filled}
use Rattle.art_nodes.proofs.TableLemmas.{child_at-table, length-table, with_child-table}
use Rattle.art_nodes.proofs.inner_nodes.representations.inner_node_direct.InnerNodeDirect.insert_child.Goals as goal
use Rattle.art_nodes.proofs.inner_nodes.representations.inner_node_direct.InnerNodeDirect.insert_child.Goals.{then-is_none, else-is_none}

pub inc_num_children-requires : goal.inc_num_children-requires
inc_num_children-requires g c =
    let small = length-table 0 c.self.inside.child_pointers in (search rules, omega (arith, small))

pub invariant_of-self : goal.invariant_of-self
invariant_of-self g c =
    let filled = direct-filled _ _ _ c.self.invariant c.args.key_fragment c.ranges.key_fragment.fits in
    let byte = c.args.key_fragment in
    let found = child_at-table 0 c.self.inside.child_pointers byte byte (omega arith) (omega (arith, c.self.invariant.all_bytes)) in
    let looked = rw (← c.self.view_is) at c.lookup_child-old_child.ensures.child in
    let was = ap is_some (sym found ∙ sym looked) ∙ c.is_none.ensures in
    elim c.if-is_none.branch [
      | then-is_none w ↦ rw (c.fill.ensures, w.self-inside-is) (filled false (was ∙ ap not w.if-is_none.true) c.new.result _ w.inc_num_children.ensures)
      | else-is_none w ↦ rw (c.fill.ensures, w.self-inside-is) (filled true (was ∙ ap not w.if-is_none.false) c.new.result _ refl)
    ]

pub returns : goal.returns
returns g c =
    let table = c.self.inside.child_pointers in
    let byte = c.args.key_fragment in
    let within : byte < length table = omega (arith, c.self.invariant.all_bytes, c.ranges.key_fragment.fits) in
    let written = with_child-table 0 table byte byte c.new.result (omega arith) within (omega (arith, c.self.invariant.all_bytes)) in
    elim c.if-is_none.branch [
      | then-is_none w ↦ record { old_child = c.lookup_child-old_child.ensures.child; written = rw (← c.self.view_is, ← c.new.ensures, c.fill.ensures, w.self-inside-is, w.inc_num_children.ensures, written) refl }
      | else-is_none w ↦ record { old_child = c.lookup_child-old_child.ensures.child; written = rw (← c.self.view_is, ← c.new.ensures, c.fill.ensures, w.self-inside-is, written) refl }
    ]
