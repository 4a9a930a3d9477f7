use Rattle.std.proofs.Common.{sym, ◌∙◌, arith}
use Rattle.art_nodes.proofs.TableLemmas.{child_at-table}
use Rattle.art_nodes.proofs.inner_nodes.representations.inner_node_direct.InnerNodeDirectInnerNodeRead.lookup_child.Goals as goal

pub returns-clause-child : goal.returns-clause-child
returns-clause-child g c =
    let byte = c.args.key_fragment in
    let found = child_at-table 0 c.self.inside.child_pointers byte byte (omega arith) (omega (arith, c.self.invariant.all_bytes)) in
    rw (← c.self.view_is, c.to_opaque.ensures) (c.in_ok-child.ensures ∙ sym found)

pub returns-in_err-child-clause-child : goal.returns-in_err-child-clause-child
returns-in_err-child-clause-child g c =
    let byte = c.args.key_fragment in
    let absent = child_at-table 0 c.self.inside.child_pointers byte byte (omega arith) (omega (arith, c.self.invariant.all_bytes)) in
    c.from_residual.ensures ∙ rw (← c.self.view_is) (c.in_err-child.ensures ∙ sym absent)
