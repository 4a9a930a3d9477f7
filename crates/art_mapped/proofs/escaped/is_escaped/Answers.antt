use Rattle.std.proofs.Common.{eqb-true}
use Rattle.art_mapped.proofs.Escapes.{read_one, read_escape, ends_exactly, no_other, no_more}
use Rattle.art_mapped.proofs.escaped.is_escaped.Goals as goal
use Rattle.art_mapped.proofs.escaped.is_escaped.Goals.{then-not-after_zero, else-not-after_zero+then-byte}

pub returns-then-byte-eq0 : goal.returns-then-byte-eq0
returns-then-byte-eq0 c = ends_exactly c.args.text.now c.loop-index.index c.loop-index.after_zero c.loop-index-test.true c.if-not-after_zero.false c.if-byte-eq0.true c.loop-index.invariant

pub returns-else-byte-eq0 : goal.returns-else-byte-eq0
returns-else-byte-eq0 c = (
  λ yes. absurd (c.if-byte-eq0.false (eqb-true _ _ yes)),
  λ whole. absurd (no_other c.args.text.now c.loop-index.index c.loop-index.after_zero c.loop-index-test.true c.if-not-after_zero.false c.if-byte.false c.if-byte-eq0.false c.loop-index.invariant whole),
)

pub loop-index-preserved : goal.loop-index-preserved
loop-index-preserved c =
    elim c.if-not-after_zero.branch [
      | then-not-after_zero w ↦
          read_one c.args.text.now c.loop-index.index c.loop-index.after_zero c.loop-index-test.true w.if-not-after_zero.true c.if-not-after_zero.after_zero w.after_zero-is c.loop-index.invariant
      | else-not-after_zero+then-byte w ↦
          read_escape c.args.text.now c.loop-index.index c.loop-index.after_zero c.loop-index-test.true w.if-not-after_zero.false w.if-byte.true c.if-not-after_zero.after_zero w.after_zero-is c.loop-index.invariant
    ]

pub returns : goal.returns
returns c = (
  λ yes. cc,
  λ whole. absurd (no_more c.args.text.now c.loop-index.index c.loop-index.after_zero c.loop-index-test.false c.loop-index.invariant.0 whole),
)
