use Rattle.std.proofs.Common.{◌≡◌, ◌+◌, ◌<◌, get_or, drop, arith, sym, ◌∙◌, add-one, refl}
use Rattle.std.proofs.lemmas.List.{get_or-drop, get_or_past}
use Rattle.art_keys.specs.HeadLaws.{head_of-more, one_more, fits}
use Rattle.art_keys.proofs.key.RadixKey.encoded_head.Given.{Over}
use Rattle.art_keys.proofs.key.RadixKey.encoded_head.Goals as goal
use Rattle.art_keys.proofs.key.RadixKey.encoded_head.Goals.{then-index-end, else-index-end, Joined-index-end}

-- the byte of this place, or a zero behind the end
byte : (g : Over) (c : Joined-index-end g) → (c.if-index-end.byte < 256) × (c.if-index-end.byte ≡ get_or (drop c.args.skip (g.Self.KeyBytes.encoded c.args.self.now)) c.loop-place.place 0)
byte g c =
    let text = g.Self.KeyBytes.encoded c.args.self.now in
    elim c.if-index-end.branch [
      | then-index-end w ↦ (omega (arith, w.encoded_byte-byte.type_inv, w.byte-is), w.byte-is ∙ w.encoded_byte-byte.ensures ∙ sym (get_or-drop c.args.skip text c.loop-place.place 0))
      | else-index-end w ↦ (omega (arith, w.byte-is), w.byte-is ∙ sym (get_or-drop c.args.skip text c.loop-place.place 0 ∙ get_or_past text (c.args.skip + c.loop-place.place) 0 (omega (arith, c.encoded_len-end.ensures.len, w.if-index-end.false, c.ranges.skip.fits, c.loop-place-test.true))))
    ]

pub overflow_mul-head : goal.overflow_mul-head
overflow_mul-head g c = omega (arith, fits c.loop-place.place c.loop-place.head 0 c.loop-place-test.true c.loop-place.invariant.small (omega arith))

pub overflow_add-head : goal.overflow_add-head
overflow_add-head g c = omega (arith, fits c.loop-place.place c.loop-place.head c.if-index-end.byte c.loop-place-test.true c.loop-place.invariant.small (byte g (goal.at.overflow_add-head g c).Joined-index-end).0)

pub loop-place-preserved : goal.loop-place-preserved
loop-place-preserved g c =
    let this = byte g (goal.at.loop-place-preserved g c).Joined-index-end in
    let kept = c.loop-place.invariant in
    let text = drop c.args.skip (g.Self.KeyBytes.encoded c.args.self.now) in
    record {
      read = rw (add-one, head_of-more c.loop-place.place text, ← kept.read, this.1) refl;
      small = rw add-one (one_more c.loop-place.place c.loop-place.head c.if-index-end.byte kept.small this.0);
    }
