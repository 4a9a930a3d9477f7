use Rattle.art_bytes.proofs.CommonPrefix.{prefix_more}
use Rattle.std.proofs.Common.{nat_eq, drop, arith, ◌∙◌}
use Rattle.std.proofs.lemmas.List.{length-drop}
use Rattle.std.proofs.lemmas.List.Sums.{common_prefix_len-le}
use Rattle.art_bytes.proofs.prefix.common_prefix_len.Goals as goal

pub returns : goal.returns
returns c =
    let a = drop c.loop-place.place c.args.a.now in
    let b = drop c.loop-place.place c.args.b.now in
    let le = common_prefix_len-le nat_eq a b in
    omega (arith, c.loop-place.invariant, le, length-drop c.loop-place.place c.args.a.now, length-drop c.loop-place.place c.args.b.now, c.min-shorter.ensures)

pub loop-place-preserved : goal.loop-place-preserved
loop-place-preserved c = c.loop-place.invariant ∙ prefix_more c.args.a.now c.args.b.now c.loop-place.place c.min-shorter.result c.loop-place-test.true c.min-shorter.ensures c.if-a-place.false
