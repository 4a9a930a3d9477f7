use Rattle.std.proofs.Common.{◌∙◌, ◌<◌, ap, subst, arith, length-set, length}
use Rattle.art_pages.proofs.SiftLemmas.{accepted, sifted-in, sifted-out, sifted-end}
use Rattle.art_pages.proofs.sift.retain_pairs.Goals as goal

pub keeps-requires : goal.keeps-requires
keeps-requires g c =
    let at = c.pairs in let long = at.pairs.ok.0 in let more = c.pairs-test.true in let count = c.len.ensures in
    accepted g.F.Keeps.step g.F.Keeps.accepts at.invariant.1 c.index_mut-pair.result.now (omega (arith, long, more, count)) c.index_mut-pair.ensures.value

pub pairs-preserved : goal.pairs-preserved
pairs-preserved g c =
    let at = c.pairs in let long = at.pairs.ok.0 in let more = c.pairs-test.true in let count = c.len.ensures in
    let low = at.invariant.0.0 in
    let within : at.place < length at.pairs.items = omega (arith, long, more, count) in
    let pair = c.index_mut-pair.result.now in let value = c.keeps.new.value in let after = c.keeps.new.self in
    let wide = length-set at.pairs.items at.place (pair.0, value) in
    elim c.if-keeps.branch [
      | goal.then-keeps one ↦
          let step = subst (λ r. g.F.Keeps.step at.test pair.0 pair.1 r value after) one.if-keeps.true c.keeps.ensures in
          let items = ap (λ w. w.items) one.pairs-is ∙ one.swap.ensures.items in
          let len = ap (λ w. w.len) one.pairs-is ∙ one.swap.ensures.len in
          let now = c.if-keeps.pairs.ok.0 in let count_is = one.kept-is in (
            (
              omega (arith, low, count_is),
              omega (arith, within, long, len, now),
              ap (λ w. w.cap) one.pairs-is ∙ one.swap.ensures.capacity ∙ at.invariant.0.2,
            ),
            sifted-in g.F.Keeps.step g.F.Keeps.accepts at.invariant.1 pair within c.index_mut-pair.ensures.value low value after step c.if-keeps.pairs.items items c.if-keeps.kept count_is,
          )
      | goal.else-keeps other ↦
          let step = subst (λ r. g.F.Keeps.step at.test pair.0 pair.1 r value after) other.if-keeps.false c.keeps.ensures in
          let items = ap (λ w. w.items) other.pairs-is in
          let count_is = other.kept-is in (
            (
              omega (arith, low, count_is),
              omega (arith, within, wide, ap length items),
              ap (λ w. w.cap) other.pairs-is ∙ at.invariant.0.2,
            ),
            sifted-out g.F.Keeps.step g.F.Keeps.accepts at.invariant.1 pair within c.index_mut-pair.ensures.value low value after step c.if-keeps.pairs.items items c.if-keeps.kept count_is,
          )
    ]

pub returns-clause-retained : goal.returns-clause-retained
returns-clause-retained g c =
    let at = c.pairs in let long = at.pairs.ok.0 in let done = c.pairs-test.false in let count = c.len.ensures in
    sifted-end g.F.Keeps.step g.F.Keeps.accepts at.invariant.1 (omega (arith, long, done, count)) c.truncate.new.self.items c.truncate.ensures.items
