use Rattle.art_mapped.proofs.Escapes.{all_read, no_more, still_escaped, take_one, take_zero, wait_one}
use Rattle.art_mapped.proofs.escaped.unescaped.Goals as goal
use Rattle.art_mapped.proofs.escaped.unescaped.Goals.{then-not-after_zero+then-byte-eq0, then-not-after_zero+else-byte-eq0+in_ok-push, else-not-after_zero+else-byte-eq0-2+in_ok-push-2}

pub returns-then-byte-eq0-2 : goal.returns-then-byte-eq0-2
returns-then-byte-eq0-2 c =
    all_read c.args.text.now c.loop-byte.byte-index c.loop-byte.after_zero c.loop-byte.bytes.items c.loop-byte-test.true c.if-not-after_zero.false c.if-byte-eq0-2.true c.requires c.loop-byte.invariant

pub loop-byte-preserved : goal.loop-byte-preserved
loop-byte-preserved c =
    elim c.if-not-after_zero.branch [
      | then-not-after_zero+then-byte-eq0 w ↦
          rw (w.bytes-is, w.after_zero-is) (wait_one c.args.text.now c.loop-byte.byte-index c.loop-byte.after_zero c.loop-byte.bytes.items c.loop-byte-test.true w.if-not-after_zero.true w.if-byte-eq0.true c.loop-byte.invariant)
      | then-not-after_zero+else-byte-eq0+in_ok-push w ↦
          rw (w.bytes-is, w.after_zero-is, w.in_ok-push.ensures.items) (take_one c.args.text.now c.loop-byte.byte-index c.loop-byte.after_zero c.loop-byte.bytes.items c.loop-byte-test.true w.if-not-after_zero.true w.if-byte-eq0.false c.loop-byte.invariant)
      | else-not-after_zero+else-byte-eq0-2+in_ok-push-2 w ↦
          rw (w.bytes-is, w.after_zero-is, w.in_ok-push-2.ensures.items) (take_zero c.args.text.now c.loop-byte.byte-index c.loop-byte.after_zero c.loop-byte.bytes.items c.loop-byte-test.true w.if-not-after_zero.false w.if-byte-eq0-2.false c.requires c.loop-byte.invariant)
    ]

pub returns : goal.returns
returns c =
    absurd (no_more c.args.text.now c.loop-byte.byte-index c.loop-byte.after_zero c.loop-byte-test.false (still_escaped c.args.text.now c.loop-byte.byte-index c.loop-byte.after_zero c.loop-byte.bytes.items c.loop-byte.invariant) c.requires)
