use Rattle.std.proofs.Common.{drop, arith, sym, ◌∙◌, add-one, refl}
use Rattle.std.proofs.lemmas.List.{get_or-drop}
use Rattle.art_keys.specs.HeadLaws.{head_of-more, one_more, fits}
use Rattle.art_keys.proofs.head.head_of.Goals as goal

pub overflow_mul-head : goal.overflow_mul-head
overflow_mul-head g c = omega (arith, fits c.loop-place.place c.loop-place.head 0 c.loop-place-test.true c.loop-place.invariant.small (omega arith))

pub overflow_add-head : goal.overflow_add-head
overflow_add-head g c = omega (arith, fits c.loop-place.place c.loop-place.head c.byte_at.result c.loop-place-test.true c.loop-place.invariant.small (omega (arith, c.byte_at.type_inv)))

pub loop-place-preserved : goal.loop-place-preserved
loop-place-preserved g c =
    let kept = c.loop-place.invariant in
    let text = g.B.ByteSource.text c.args.bytes in
    let byte = c.byte_at.ensures ∙ sym (get_or-drop c.args.skip text c.loop-place.place 0) in
    record {
      read = rw (add-one, head_of-more c.loop-place.place (drop c.args.skip text), ← kept.read, byte) refl;
      small = rw add-one (one_more c.loop-place.place c.loop-place.head c.byte_at.result kept.small (omega (arith, c.byte_at.type_inv)));
    }
