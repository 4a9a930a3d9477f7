use Rattle.std.proofs.Common.{◌≡◌, ◌∙◌, ◌+◌, ◌-◌, take, drop, ap, arith}
use Rattle.art_steps.proofs.PlaceLemmas.WayPlaces.{prefix-in-text, prefix-stored}
use Rattle.art_steps.proofs.place.whole_prefix.Goals as goal

pub returns-then-prefix_len-clause-prefix : goal.returns-then-prefix_len-clause-prefix
returns-then-prefix_len-clause-prefix g c = λ tree on. c.stored_prefix.ensures.stored ∙ prefix-stored on.spot_in c.requires.node (omega (arith, c.prefix_len-prefix_len.ensures.value))

pub overflow_add-result : goal.overflow_add-result
overflow_add-result g c =
    let (tree, on) = c.requires.spot in
    omega (arith, (prefix-in-text on.spot_in c.requires.node c.text_below_spot-text.result.now (c.text_below_spot-text.ensures tree on)).0, c.prefix_len-prefix_len.ensures.value)

pub slice_bounds-result-end : goal.slice_bounds-result-end
slice_bounds-result-end g c =
    let (tree, on) = c.requires.spot in
    omega (arith, (prefix-in-text on.spot_in c.requires.node c.text_below_spot-text.result.now (c.text_below_spot-text.ensures tree on)).0, c.prefix_len-prefix_len.ensures.value)

pub returns-clause-prefix : goal.returns-clause-prefix
returns-clause-prefix g c = λ tree on.
    let long : c.args.spot.depth + c.prefix_len-prefix_len.result - c.args.spot.depth ≡ (g.N.InnerNodeRead.inner c.args.node.now).prefix_len = omega (arith, c.prefix_len-prefix_len.ensures.value) in
    ap (λ n. take n (drop c.args.spot.depth c.text_below_spot-text.result.now)) long ∙ (prefix-in-text on.spot_in c.requires.node c.text_below_spot-text.result.now (c.text_below_spot-text.ensures tree on)).1
