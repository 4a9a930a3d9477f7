use Rattle.std.proofs.Common.{◌∙◌, [], subst, arith}
use Rattle.std.proofs.lemmas.List.{take_all}
use Rattle.std.proofs.lemmas.List.Elements.{All-more}
use Rattle.art_c_maps.specs.Loads.{NoneTooLong}
use Rattle.art_c_maps.specs.Many.{cut}
use Rattle.art_c_maps.specs.Refusals.{IsNotTooLong, IsTooLong}
use Rattle.art_c_maps.proofs.ManyLemmas.{cut-left, length-cut}
use Rattle.art_c_maps.proofs.loads.some_too_long.Goals as goal

pub loop-index-preserved : goal.loop-index-preserved
loop-index-preserved c =
    let ends = c.args.ends.now in let keys = cut c.args.keys.now ends in let i = c.loop-index.index in
    let step = cut-left c.args.keys.now ends c.loop-index.start i c.loop-index-test.true c.loop-index.invariant.left in
    record {
      left = step.1;
      none = All-more IsNotTooLong keys i [] (omega (arith, c.loop-index-test.true, length-cut 0 c.args.keys.now ends)) c.loop-index.invariant.none
          (subst IsNotTooLong (c.bytes_between.ensures ∙ step.0) (c.is_too_long.ensures.fits c.if-is_too_long.false));
    }

pub returns-then-is_too_long : goal.returns-then-is_too_long
returns-then-is_too_long c =
    let ends = c.args.ends.now in let keys = cut c.args.keys.now ends in let i = c.loop-index.index in
    let step = cut-left c.args.keys.now ends c.loop-index.start i c.loop-index-test.true c.loop-index.invariant.left in
    record {
      some = λ yes. (
        i,
        omega (arith, c.loop-index-test.true, length-cut 0 c.args.keys.now ends),
        subst IsTooLong (c.bytes_between.ensures ∙ step.0) (c.is_too_long.ensures.too_long c.if-is_too_long.true),
      );
      none = λ no. absurd (cc);
    }

pub returns : goal.returns
returns c =
    let keys = cut c.args.keys.now c.args.ends.now in record {
      some = λ yes. absurd (cc);
      none = λ no. subst NoneTooLong (take_all c.loop-index.index keys (omega (arith, c.loop-index-test.false, length-cut 0 c.args.keys.now c.args.ends.now))) c.loop-index.invariant.none;
    }
