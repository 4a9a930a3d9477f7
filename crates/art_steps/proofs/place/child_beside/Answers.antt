use Rattle.art_steps.proofs.Names.{◌≡◌, ◌∙◌, [], sym, subst, IfNone, IfSome, held, inner_shown, shown, End, inner-there, no-inner-there, one-inner, IsChildBeside, pairs_on}
use Rattle.art_steps.proofs.place.child_beside.Goals as goal

pub returns-in_err-node-clause-child : goal.returns-in_err-node-clause-child
returns-in_err-node-clause-child g c = λ node is. no-inner-there (shown c.node_ref.result) c.inner.result c.inner.ensures.node node c.in_err-node.was (sym c.node_ref.ensures.node ∙ is)

pub returns-in_err-node-clause-none : goal.returns-in_err-node-clause-none
returns-in_err-node-clause-none g c = λ node is. no-inner-there (shown c.node_ref.result) c.inner.result c.inner.ensures.node node c.in_err-node.was (sym c.node_ref.ensures.node ∙ is)

pub returns-clause-child : goal.returns-clause-child
returns-clause-child g c = λ node is.
    let there = c.node_ref.ensures.node ∙ inner-there (shown c.node_ref.result) c.inner.result c.inner.ensures.node c.in_ok-node.node c.in_ok-node.was in
    let same = one-inner (held c.args.arena.now c.args.pointer) (inner_shown c.in_ok-node.node) node there is in
    subst (λ n. IfSome c.child_beside_in.result (λ pair. IsChildBeside pair.1 n.children c.args.byte pair.0)) same c.child_beside_in.ensures.child

pub returns-clause-none : goal.returns-clause-none
returns-clause-none g c = λ node is.
    let there = c.node_ref.ensures.node ∙ inner-there (shown c.node_ref.result) c.inner.result c.inner.ensures.node c.in_ok-node.node c.in_ok-node.was in
    let same = one-inner (held c.args.arena.now c.args.pointer) (inner_shown c.in_ok-node.node) node there is in
    subst (λ n. IfNone c.child_beside_in.result ((end : End) → pairs_on end n.children c.args.byte ≡ [])) same c.child_beside_in.ensures.none
