use Rattle.art_steps.proofs.Names.{◌≡◌, ◌∙◌, ◌+◌, drop, sym, ap, arith, take_rest, inner_shown, shown, inner-there, toward, if_none_always}
use Rattle.art_steps.proofs.PlaceLemmas.TowardLemmas.{child-byte, child-toward, none-toward}
use Rattle.art_steps.proofs.place.child_toward.Goals as goal

pub returns-in_err-child-clause-none : goal.returns-in_err-child-clause-none
returns-in_err-child-clause-none g c = λ found.
    let node = inner_shown c.in_ok-node.node in
    let holds = c.node_ref.ensures.node ∙ inner-there (shown c.node_ref.result) c.inner.result c.inner.ensures.node c.in_ok-node.node c.in_ok-node.was in
    if_none_always c.from_residual-in_err-child.result _ (none-toward g.K.AsBytes.text c.args.arena.now c.args.pointer c.args.rest.now found node holds (sym c.child_after_prefix.ensures ∙ c.in_err-child.was))

pub overflow_add-result : goal.overflow_add-result
overflow_add-result g c =
    let node = inner_shown c.in_ok-node.node in
    let next = child-byte node.children c.args.rest.now node.prefix_len c.in_ok-child.child (sym c.child_after_prefix.ensures ∙ c.in_ok-child.was) in
    omega (arith, next.within, c.prefix_len.ensures.value)

pub slice_bounds-result-count : goal.slice_bounds-result-count
slice_bounds-result-count g c =
    let node = inner_shown c.in_ok-node.node in
    let next = child-byte node.children c.args.rest.now node.prefix_len c.in_ok-child.child (sym c.child_after_prefix.ensures ∙ c.in_ok-child.was) in
    omega (arith, next.within, c.prefix_len.ensures.value)

pub slice_bounds-result-start : goal.slice_bounds-result-start
slice_bounds-result-start g c =
    let node = inner_shown c.in_ok-node.node in
    let next = child-byte node.children c.args.rest.now node.prefix_len c.in_ok-child.child (sym c.child_after_prefix.ensures ∙ c.in_ok-child.was) in
    omega (arith, next.within, c.prefix_len.ensures.value)

pub returns-clause-child : goal.returns-clause-child
returns-clause-child g c = λ found.
    let node = inner_shown c.in_ok-node.node in
    let holds = c.node_ref.ensures.node ∙ inner-there (shown c.node_ref.result) c.inner.result c.inner.ensures.node c.in_ok-node.node c.in_ok-node.was in
    let rest = c.args.rest.now in
    let on = child-toward g.K.AsBytes.text c.args.arena.now c.args.pointer rest found node c.in_ok-child.child holds (sym c.child_after_prefix.ensures ∙ c.in_ok-child.was) in
    let left : drop (node.prefix_len + 1) rest ≡ drop (c.prefix_len.result + 1) rest = ap (λ n. drop (n + 1) rest) (sym c.prefix_len.ensures.value) in
    (on.below, on.same ∙ ap (λ l. toward l on.below.tree) (left ∙ sym (take_rest rest (c.prefix_len.result + 1))))
