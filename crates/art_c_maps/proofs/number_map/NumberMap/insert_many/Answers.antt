use Rattle.std.proofs.Common.{◌≡◌, ◌∙◌, take, get_or, ap, arith}
use Rattle.std.specs.List.{zip}
use Rattle.std.specs.Ordering.{nat_cmp}
use Rattle.std.proofs.lemmas.Slice.Zip.{length-zip}
use Rattle.art_c_maps.specs.Entries.{put, put_each, value_of}
use Rattle.art_c_maps.proofs.ManyLemmas.{put-more}
use Rattle.art_c_maps.proofs.number_map.NumberMap.insert_many.Goals as goal

pub loop-index-preserved : goal.loop-index-preserved
loop-index-preserved c =
    let keys = c.args.keys.now in let values = c.args.values.now in let i = c.loop-index.index in
    c.in-Ok.ensures.entries ∙ ap (λ entries. put nat_cmp entries (get_or keys i 0) (get_or values i 0)) c.loop-index.invariant
    ∙ put-more nat_cmp c.args.self.now keys values i 0 0 (omega (arith, c.loop-index-test.true, c.min-count.ensures)) (omega (arith, c.loop-index-test.true, c.min-count.ensures))

pub returns-in_default-clause-entries : goal.returns-in_default-clause-entries
returns-in_default-clause-entries c = c.in_default.ensures.same_entries ∙ c.loop-index.invariant

pub returns-in_default-clause-stopped : goal.returns-in_default-clause-stopped
returns-in_default-clause-stopped c = omega (arith, length-zip c.args.keys.now c.args.values.now, c.loop-index-test.true, c.min-count.ensures)

pub returns-in_default-clause-no_entry : goal.returns-in_default-clause-no_entry
returns-in_default-clause-no_entry c =
    ap (λ entries. value_of nat_cmp entries (get_or c.args.keys.now c.loop-index.index 0)) c.in_default.ensures.same_entries ∙ c.in_default.ensures.no_entry

pub returns-clause-entries : goal.returns-clause-entries
returns-clause-entries c =
    let ended : c.loop-index.index ≡ c.min-count.result = omega (arith, c.loop-index-test.false, c.loop-index.auto.index-end) in
    c.loop-index.invariant ∙ ap (λ n. put_each nat_cmp c.args.self.now (take n (zip c.args.keys.now c.args.values.now))) ended

pub returns-clause-all : goal.returns-clause-all
returns-clause-all c = omega (arith, length-zip c.args.keys.now c.args.values.now, c.min-count.ensures)
