use Rattle.std.proofs.Common.{◌≡◌, ◌<◌, ◌∙◌, ◌++◌, [], length, min, take, drop, get_or, ap, arith}
use Rattle.std.specs.List.{zip}
use Rattle.art_bytes.specs.Text.{text_order}
use Rattle.art_c_maps.specs.Entries.{value_of}
use Rattle.art_c_maps.specs.Many.{are_found, cut, found_or, found_values, one_if_found}
use Rattle.art_c_maps.proofs.ManyLemmas.{all-found, all-values, cut-left, length-cut, one-found, one-value}
use Rattle.art_c_maps.proofs.bytes_map.BytesMap.get_many.Goals as goal

pub loop-index-preserved : goal.loop-index-preserved
loop-index-preserved c =
    let keys = cut c.args.keys.now c.args.ends.now in let i = c.loop-index.index in let look = value_of text_order c.args.self.now in let before = get_or c.loop-index.values i 0 in
    let within : i < min (length c.args.ends.now) (min (length c.args.found.now) (length c.args.values.now)) = omega (arith, c.loop-index-test.true, c.min-count.ensures, c.min.ensures) in
    let in_keys : i < length keys = omega (arith, within, length-cut 0 c.args.keys.now c.args.ends.now) in
    let step = cut-left c.args.keys.now c.args.ends.now c.loop-index.start i (omega (arith, within)) c.loop-index.invariant.left in
    let answer : c.found_beside-is_found.result ≡ (one_if_found (look (get_or keys i [])), found_or (look (get_or keys i [])) before) =
    c.found_beside-is_found.ensures ∙ ap (λ found. (one_if_found found, found_or found before)) (c.get-value.ensures ∙ ap look (c.bytes_between.ensures ∙ step.0)) in
    record {
      left = step.1;
      found = one-found look keys c.args.found.now c.loop-index.found i [] in_keys (omega (arith, within)) c.loop-index.invariant.found c.found_beside-is_found.result.0 (ap (λ pair. pair.0) answer);
      values = one-value look keys c.args.values.now c.loop-index.values i [] 0 in_keys (omega (arith, within)) c.loop-index.invariant.values c.found_beside-is_found.result.1 (ap (λ pair. pair.1) answer);
    }

pub returns-clause-found : goal.returns-clause-found
returns-clause-found c =
    let keys = cut c.args.keys.now c.args.ends.now in let look = value_of text_order c.args.self.now in
    let ended : c.loop-index.index ≡ c.min-count.result = omega (arith, c.loop-index-test.false, c.loop-index.auto.index-end) in
    c.loop-index.invariant.found ∙ ap (λ n. take n (are_found look keys) ++ drop n c.args.found.now) ended
    ∙ all-found look keys c.args.found.now c.min-count.result (omega (arith, c.min-count.ensures, length-cut 0 c.args.keys.now c.args.ends.now))

pub returns-clause-values : goal.returns-clause-values
returns-clause-values c =
    let keys = cut c.args.keys.now c.args.ends.now in let look = value_of text_order c.args.self.now in
    let ended : c.loop-index.index ≡ c.min-count.result = omega (arith, c.loop-index-test.false, c.loop-index.auto.index-end) in
    c.loop-index.invariant.values ∙ ap (λ n. take n (found_values look (zip keys c.args.values.now)) ++ drop n c.args.values.now) ended
    ∙ all-values look keys c.args.values.now c.min-count.result (omega (arith, c.min-count.ensures, length-cut 0 c.args.keys.now c.args.ends.now)) (omega (arith, c.min-count.ensures, c.min.ensures))
