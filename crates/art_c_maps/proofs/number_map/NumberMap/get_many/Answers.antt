use Rattle.std.proofs.Common.{◌≡◌, ◌<◌, ◌∙◌, ◌++◌, length, min, take, drop, get_or, ap, arith}
use Rattle.std.specs.List.{zip}
use Rattle.std.specs.Ordering.{nat_cmp}
use Rattle.art_c_maps.specs.Entries.{value_of}
use Rattle.art_c_maps.specs.Many.{are_found, found_or, found_values, one_if_found}
use Rattle.art_c_maps.proofs.ManyLemmas.{all-found, all-values, one-found, one-value}
use Rattle.art_c_maps.proofs.number_map.NumberMap.get_many.Goals as goal

pub loop-index-preserved : goal.loop-index-preserved
loop-index-preserved c =
    let keys = c.args.keys.now in let i = c.loop-index.index in let look = value_of nat_cmp c.args.self.now in let before = get_or c.loop-index.values i 0 in
    let within : i < min (length keys) (min (length c.args.found.now) (length c.args.values.now)) = omega (arith, c.loop-index-test.true, c.min-count.ensures, c.min.ensures) in
    let answer : c.found_beside-is_found.result ≡ (one_if_found (look (get_or keys i 0)), found_or (look (get_or keys i 0)) before) =
    c.found_beside-is_found.ensures ∙ ap (λ found. (one_if_found found, found_or found before)) c.get.ensures in
    record {
      found = one-found look keys c.args.found.now c.loop-index.found i 0 (omega (arith, within)) (omega (arith, within)) c.loop-index.invariant.found c.found_beside-is_found.result.0 (ap (λ pair. pair.0) answer);
      values = one-value look keys c.args.values.now c.loop-index.values i 0 0 (omega (arith, within)) (omega (arith, within)) c.loop-index.invariant.values c.found_beside-is_found.result.1 (ap (λ pair. pair.1) answer);
    }

pub returns-clause-found : goal.returns-clause-found
returns-clause-found c =
    let look = value_of nat_cmp c.args.self.now in
    let ended : c.loop-index.index ≡ c.min-count.result = omega (arith, c.loop-index-test.false, c.loop-index.auto.index-end) in
    c.loop-index.invariant.found ∙ ap (λ n. take n (are_found look c.args.keys.now) ++ drop n c.args.found.now) ended
    ∙ all-found look c.args.keys.now c.args.found.now c.min-count.result (omega (arith, c.min-count.ensures))

pub returns-clause-values : goal.returns-clause-values
returns-clause-values c =
    let look = value_of nat_cmp c.args.self.now in
    let ended : c.loop-index.index ≡ c.min-count.result = omega (arith, c.loop-index-test.false, c.loop-index.auto.index-end) in
    c.loop-index.invariant.values ∙ ap (λ n. take n (found_values look (zip c.args.keys.now c.args.values.now)) ++ drop n c.args.values.now) ended
    ∙ all-values look c.args.keys.now c.args.values.now c.min-count.result (omega (arith, c.min-count.ensures)) (omega (arith, c.min-count.ensures, c.min.ensures))
