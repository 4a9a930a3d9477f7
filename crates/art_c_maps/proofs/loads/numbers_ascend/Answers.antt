use Rattle.std.proofs.Common.{◌≡◌, ◌<◌, ◌+◌, ◌∙◌, length, get_or, true, false, sym, ap, arith}
use Rattle.std.specs.Ordering.{is_lt, nat_cmp}
use Rattle.art_c_maps.proofs.LoadLemmas.{ascend-below, ascend-last, ascend-not}
use Rattle.art_c_maps.proofs.loads.numbers_ascend.Goals as goal

pub loop-index-preserved : goal.loop-index-preserved
loop-index-preserved c =
    let keys = c.args.keys.now in let i = c.loop-index.index in
    let within : i + 1 < length keys = omega (arith, c.loop-index-test.true, c.saturating_sub-pairs.ensures) in
    let below : is_lt (nat_cmp (get_or keys i 0) (get_or keys (i + 1) 0)) ≡ true = sym (c.is_lt-is_below.ensures ∙ ap is_lt c.cmp.ensures) ∙ c.if-not-is_below.false in
    ascend-below nat_cmp keys i 0 within c.loop-index.invariant below

pub returns-then-not-is_below : goal.returns-then-not-is_below
returns-then-not-is_below c =
    let keys = c.args.keys.now in let i = c.loop-index.index in
    let within : i + 1 < length keys = omega (arith, c.loop-index-test.true, c.saturating_sub-pairs.ensures) in
    let above : is_lt (nat_cmp (get_or keys i 0) (get_or keys (i + 1) 0)) ≡ false = sym (c.is_lt-is_below.ensures ∙ ap is_lt c.cmp.ensures) ∙ c.if-not-is_below.true in
    sym (ascend-not nat_cmp keys i 0 within c.loop-index.invariant above)

pub returns : goal.returns
returns c =
    sym (c.loop-index.invariant ∙ ascend-last nat_cmp c.args.keys.now c.loop-index.index (omega (arith, c.loop-index-test.false, c.saturating_sub-pairs.ensures)))
