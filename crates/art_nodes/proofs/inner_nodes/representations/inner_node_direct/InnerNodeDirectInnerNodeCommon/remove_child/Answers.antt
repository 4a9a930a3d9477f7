use Rattle.std.proofs.Common.{rules, refl, ap, sym, ◌∙◌, arith, true, None, set}
use Rattle.std.specs.Option.{is_some}
use Rattle.std.proofs.lemmas.List.{set-get_or}
use Rattle.art_nodes.proofs.DirectLemmas.{direct-emptied}
use Rattle.art_nodes.proofs.TableLemmas.{child_at-table, without_child-table, length-table_emptied}
use Rattle.art_nodes.proofs.inner_nodes.representations.inner_node_direct.InnerNodeDirectInnerNodeCommon.remove_child.Goals as goal

pub returns-in_err-removed_child-clause-child : goal.returns-in_err-removed_child-clause-child
returns-in_err-removed_child-clause-child g c =
    let byte = c.args.key_fragment in
    let child = child_at-table 0 c.self.inside.child_pointers byte byte (omega arith) (omega (arith, c.self.invariant.all_bytes)) in
    c.from_residual.ensures ∙ rw (← c.self.view_is) (c.in_err-removed_child.ensures ∙ sym child)

pub returns-in_err-removed_child-clause-removed : goal.returns-in_err-removed_child-clause-removed
returns-in_err-removed_child-clause-removed g c =
    let table = c.self.inside.child_pointers in
    let byte = c.args.key_fragment in
    let removed = without_child-table 0 table byte byte (omega arith) (omega (arith, c.self.invariant.all_bytes)) in
    let same = ap (set table byte) c.in_err-removed_child.ensures ∙ set-get_or table byte None in
    rw (← c.self.view_is, removed, same) refl

pub dec_num_children-requires : goal.dec_num_children-requires
dec_num_children-requires g c =
    let was = ap is_some (sym c.in_ok-removed_child.ensures) in
    let count = length-table_emptied c.self.inside.child_pointers c.args.key_fragment true (omega (arith, c.self.invariant.all_bytes)) was in
    (search rules, omega (arith, count))

pub invariant_of-self : goal.invariant_of-self
invariant_of-self g c =
    let was = ap is_some (sym c.in_ok-removed_child.ensures) in
    rw c.clear.ensures (direct-emptied _ _ _ c.self.invariant c.args.key_fragment c.ranges.key_fragment.fits true was _ c.dec_num_children.ensures)

pub returns-clause-child : goal.returns-clause-child
returns-clause-child g c =
    let byte = c.args.key_fragment in
    let child = child_at-table 0 c.self.inside.child_pointers byte byte (omega arith) (omega (arith, c.self.invariant.all_bytes)) in
    rw (← c.self.view_is, c.to_opaque.ensures) (c.in_ok-removed_child.ensures ∙ sym child)

pub returns-clause-removed : goal.returns-clause-removed
returns-clause-removed g c =
    let byte = c.args.key_fragment in
    let removed = without_child-table 0 c.self.inside.child_pointers byte byte (omega arith) (omega (arith, c.self.invariant.all_bytes)) in
    rw (← c.self.view_is, c.clear.ensures, c.dec_num_children.ensures, removed) refl
