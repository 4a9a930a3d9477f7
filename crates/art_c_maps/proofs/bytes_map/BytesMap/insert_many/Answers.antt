use Rattle.std.proofs.Common.{◌≡◌, ◌<◌, ◌∙◌, [], length, take, get_or, subst, sym, ap, arith}
use Rattle.std.specs.List.{zip}
use Rattle.std.proofs.lemmas.Slice.Zip.{length-zip}
use Rattle.art_bytes.specs.Text.{text_order}
use Rattle.art_c_maps.specs.Entries.{put, put_each}
use Rattle.art_c_maps.specs.Many.{cut}
use Rattle.art_c_maps.specs.Refusals.{IsBytesRefused}
use Rattle.art_c_maps.proofs.ManyLemmas.{cut-left, length-cut, put-more}
use Rattle.art_c_maps.proofs.bytes_map.BytesMap.insert_many.Goals as goal

pub loop-index-preserved : goal.loop-index-preserved
loop-index-preserved c =
    let keys = cut c.args.keys.now c.args.ends.now in let values = c.args.values.now in let i = c.loop-index.index in
    let in_ends : i < length c.args.ends.now = omega (arith, c.loop-index-test.true, c.min-count.ensures) in
    let step = cut-left c.args.keys.now c.args.ends.now c.loop-index.start i in_ends c.loop-index.invariant.left in
    record {
      left = step.1;
      entries = c.in-Ok.ensures.entries ∙ ap (λ key. put text_order c.loop-index.self key (get_or values i 0)) (c.bytes_between.ensures ∙ step.0)
          ∙ ap (λ entries. put text_order entries (get_or keys i []) (get_or values i 0)) c.loop-index.invariant.entries
          ∙ put-more text_order c.args.self.now keys values i [] 0 (omega (arith, in_ends, length-cut 0 c.args.keys.now c.args.ends.now)) (omega (arith, c.loop-index-test.true, c.min-count.ensures));
    }

pub returns-in-Err : goal.returns-in-Err
returns-in-Err c =
    let keys = cut c.args.keys.now c.args.ends.now in let i = c.loop-index.index in
    let in_ends : i < length c.args.ends.now = omega (arith, c.loop-index-test.true, c.min-count.ensures) in
    let step = cut-left c.args.keys.now c.args.ends.now c.loop-index.start i in_ends c.loop-index.invariant.left in
    record {
      entries = c.in-Err.ensures.same_entries ∙ c.loop-index.invariant.entries;
      all = tt;
      stopped = omega (arith, in_ends, length-cut 0 c.args.keys.now c.args.ends.now, length-zip keys c.args.values.now, c.loop-index-test.true, c.min-count.ensures);
      refusal_due = subst (λ held. IsBytesRefused held (get_or keys i []) c.in-Err.refusal) (sym c.in-Err.ensures.same_entries)
          (subst (λ key. IsBytesRefused c.loop-index.self key c.in-Err.refusal) (c.bytes_between.ensures ∙ step.0) c.in-Err.ensures.refusal_due);
    }

pub returns-clause-entries : goal.returns-clause-entries
returns-clause-entries c =
    let ended : c.loop-index.index ≡ c.min-count.result = omega (arith, c.loop-index-test.false, c.loop-index.auto.index-end) in
    c.loop-index.invariant.entries ∙ ap (λ n. put_each text_order c.args.self.now (take n (zip (cut c.args.keys.now c.args.ends.now) c.args.values.now))) ended

pub returns-clause-all : goal.returns-clause-all
returns-clause-all c = omega (arith, length-cut 0 c.args.keys.now c.args.ends.now, length-zip (cut c.args.keys.now c.args.ends.now) c.args.values.now, c.min-count.ensures)
