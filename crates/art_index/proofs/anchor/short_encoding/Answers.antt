use Rattle.std.proofs.Common.{◌∙◌, ◌<◌, [], ◌∷◌, ◌++◌, length, take, slice_set, sym, ap, arith, add-one}
use Rattle.std.proofs.Math.ListN.{length-set}
use Rattle.std.proofs.Math.Seq.{take-suc, take-suc-set}
use Rattle.art_index.proofs.anchor.short_encoding.Goals as goal

pub loop-index-preserved : goal.loop-index-preserved
loop-index-preserved g c =
    let bytes = c.loop-index.bytes in
    let i = c.loop-index.index in
    let own = c.encoded_byte.result in
    let encoded = g.K.KeyBytes.encoded c.args.key.now in
    let inside : i < length bytes = omega (arith, c.loop-index.invariant.long, c.requires.in_place, c.loop-index-test.true) in
    let within : i < length encoded = omega (arith, c.requires.all, c.loop-index-test.true) in
    record {
      long = length-set bytes i own ∙ c.loop-index.invariant.long;
      same = ap (λ n. take n (slice_set bytes i own)) (add-one i) ∙ take-suc-set bytes i own inside
          ∙ (λ j. c.loop-index.invariant.same j ++ c.encoded_byte.ensures j ∷ [])
          ∙ sym (take-suc encoded i 0 within) ∙ ap (λ n. take n encoded) (sym (add-one i));
    }
