use Rattle.std.proofs.Common.{◌<◌, ◌^◌, arith, refl, rules}
use Rattle.index.proofs.KeyLemmas.{read_key}
use Rattle.index.proofs.RowLemmas.{has_one_more, is_index}
use Rattle.index.proofs.rows.index_of.Goals as goal

pub loop-place-preserved : goal.loop-place-preserved
loop-place-preserved c =
    let fits : c.loop-place.place < 2 ^ 64 = search rules in
    let time_in = c.requires c.loop-place.place _ c.loop-place-test.true in
    has_one_more c.args.table.now c.loop-place.place c.loop-place.index c.insert.new.self _ _ _ c.loop-place.invariant c.in_ok-insert.ensures.entries (read_key _ _ c.loop-place.place time_in) refl time_in fits (omega (arith, c.loop-place-test.true)) refl

pub returns-clause-rows : goal.returns-clause-rows
returns-clause-rows c =
    is_index c.args.table.now c.loop-place.place c.loop-place.index c.loop-place.invariant (omega (arith, c.loop-place-test.false, c.loop-place.auto.place-end)) c.len-count.ensures.ordered
