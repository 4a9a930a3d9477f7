use Rattle.std.proofs.Common.{option_copied, sym, ◌∙◌, arith}
use Rattle.art_steps.proofs.PlaceLemmas.WayPlaces.{inside, matched-within, node-begins, node-descends, node-lacks, node-parts}
use Rattle.art_steps.proofs.place.next_spot_in.Goals as goal

pub overflow_add-index : goal.overflow_add-index
overflow_add-index g c =
    let (tree, on) = c.requires.spot in
    omega (arith, matched-within on.spot_in c.requires.node (c.whole_prefix.ensures.prefix tree on) c.common_prefix_len-matched.ensures)

pub returns-then-index-key-clause-place : goal.returns-then-index-key-clause-place
returns-then-index-key-clause-place g c = λ tree on. node-begins on.spot_in c.requires.node (c.whole_prefix.ensures.prefix tree on) c.common_prefix_len-matched.ensures c.if-index-key.true

pub bounds-key-index : goal.bounds-key-index
bounds-key-index g c =
    let (tree, on) = c.requires.spot in
    omega (arith, inside on.spot_in c.requires.node (c.whole_prefix.ensures.prefix tree on) c.common_prefix_len-matched.ensures c.if-index-key.false)

pub returns-then-matched-prefix-clause-place : goal.returns-then-matched-prefix-clause-place
returns-then-matched-prefix-clause-place g c = λ tree on. node-parts on.spot_in c.requires.node (c.whole_prefix.ensures.prefix tree on) c.common_prefix_len-matched.ensures c.if-index-key.false c.if-matched-prefix.true

pub overflow_add-next : goal.overflow_add-next
overflow_add-next g c =
    let (tree, on) = c.requires.spot in
    omega (arith, inside on.spot_in c.requires.node (c.whole_prefix.ensures.prefix tree on) c.common_prefix_len-matched.ensures c.if-index-key.false)

pub returns-in-Some-clause-on : goal.returns-in-Some-clause-on
returns-in-Some-clause-on g c = λ tree on.
    node-descends on.spot_in c.requires.node (c.whole_prefix.ensures.prefix tree on) c.common_prefix_len-matched.ensures c.if-index-key.false c.if-matched-prefix.false (sym c.lookup_child.ensures.child ∙ c.in-Some.is) (option_copied c.whole_prefix.result.1) (c.whole_prefix.ensures.known tree on)

pub returns-in-None-clause-place : goal.returns-in-None-clause-place
returns-in-None-clause-place g c = λ tree on.
    node-lacks on.spot_in c.requires.node (c.whole_prefix.ensures.prefix tree on) c.common_prefix_len-matched.ensures c.if-index-key.false c.if-matched-prefix.false (sym c.lookup_child.ensures.child ∙ c.in-None.is)
