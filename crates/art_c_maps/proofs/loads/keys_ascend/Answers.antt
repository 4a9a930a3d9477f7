use Rattle.std.proofs.Common.{◌≡◌, ◌<◌, ◌+◌, ◌∙◌, [], length, get_or, true, false, sym, ap, arith}
use Rattle.std.specs.Ordering.{is_lt}
use Rattle.art_bytes.specs.Text.{text_order}
use Rattle.art_c_maps.specs.Many.{cut}
use Rattle.art_c_maps.proofs.LoadLemmas.{ascend-below, ascend-last, ascend-not}
use Rattle.art_c_maps.proofs.ManyLemmas.{cut-left, length-cut}
use Rattle.art_c_maps.proofs.loads.keys_ascend.Goals as goal

pub loop-index-preserved : goal.loop-index-preserved
loop-index-preserved c =
    let ends = c.args.ends.now in let keys = cut c.args.keys.now ends in let i = c.loop-index.index in
    let within : i + 1 < length ends = omega (arith, c.loop-index-test.true, c.saturating_sub-pairs.ensures) in
    let in_keys : i + 1 < length keys = omega (arith, within, length-cut 0 c.args.keys.now ends) in
    let step = cut-left c.args.keys.now ends c.loop-index.start i (omega (arith, within)) c.loop-index.invariant.left in
    let then = cut-left c.args.keys.now ends (get_or ends i 0) (i + 1) within step.1 in
    let below : is_lt (text_order (get_or keys i []) (get_or keys (i + 1) [])) ≡ true =
    sym (c.is_lt-is_below.ensures ∙ ap is_lt (c.cmp.ensures ∙ ap (λ x. text_order x c.bytes_between-next.result.now) (c.bytes_between-key.ensures ∙ step.0)
    ∙ ap (text_order (get_or keys i [])) (c.bytes_between-next.ensures ∙ then.0))) ∙ c.if-not-is_below.false in
    record {
      left = step.1;
      ascend = ascend-below text_order keys i [] in_keys c.loop-index.invariant.ascend below;
    }

pub returns-then-not-is_below : goal.returns-then-not-is_below
returns-then-not-is_below c =
    let ends = c.args.ends.now in let keys = cut c.args.keys.now ends in let i = c.loop-index.index in
    let within : i + 1 < length ends = omega (arith, c.loop-index-test.true, c.saturating_sub-pairs.ensures) in
    let in_keys : i + 1 < length keys = omega (arith, within, length-cut 0 c.args.keys.now ends) in
    let step = cut-left c.args.keys.now ends c.loop-index.start i (omega (arith, within)) c.loop-index.invariant.left in
    let then = cut-left c.args.keys.now ends (get_or ends i 0) (i + 1) within step.1 in
    let above : is_lt (text_order (get_or keys i []) (get_or keys (i + 1) [])) ≡ false =
    sym (c.is_lt-is_below.ensures ∙ ap is_lt (c.cmp.ensures ∙ ap (λ x. text_order x c.bytes_between-next.result.now) (c.bytes_between-key.ensures ∙ step.0)
    ∙ ap (text_order (get_or keys i [])) (c.bytes_between-next.ensures ∙ then.0))) ∙ c.if-not-is_below.true in
    sym (ascend-not text_order keys i [] in_keys c.loop-index.invariant.ascend above)

pub returns : goal.returns
returns c =
    let keys = cut c.args.keys.now c.args.ends.now in
    sym (c.loop-index.invariant.ascend ∙ ascend-last text_order keys c.loop-index.index
    (omega (arith, c.loop-index-test.false, c.saturating_sub-pairs.ensures, length-cut 0 c.args.keys.now c.args.ends.now)))
