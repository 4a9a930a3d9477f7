use Rattle.std.proofs.Common.{◌≡◌, ◌∙◌, length, min, set, sym, ap, arith}
use Rattle.std.proofs.lemmas.List.{drop-map, length-take}
use Rattle.art_c_maps.specs.Batch.{toward}
use Rattle.art_c_maps.specs.Entries.{keys_of, values_of}
use Rattle.art_c_maps.proofs.WriteLemmas.{all-written, left-behind, none-behind, one-written}
use Rattle.art_c_maps.proofs.number_map.write_entries.Goals as goal

pub loop-index-preserved : goal.loop-index-preserved
loop-index-preserved c =
    let all = toward c.args.backward c.args.entries in let rest = toward c.args.backward c.next_entry.new.entries in
    let so_far = c.loop-index.invariant in let k = c.loop-index.index in
    let key = c.in-Some.key.now in let value = c.in-Some.value.now in
    let here = sym so_far.left ∙ c.in-Some.ensures.some in
    let behind = left-behind all k (key, value) rest here in record {
      left = behind.0;
      enough = behind.1;
      keys = ap (λ xs. set xs k key) so_far.keys ∙ one-written (keys_of all) c.args.keys.now k key (keys_of rest) (drop-map (λ e. e.0) k all ∙ ap keys_of here) (omega (arith, c.loop-index-test.true, c.min-room.ensures));
      values = ap (λ xs. set xs k value) so_far.values ∙ one-written (values_of all) c.args.values.now k value (values_of rest) (drop-map (λ e. e.1) k all ∙ ap values_of here) (omega (arith, c.loop-index-test.true, c.min-room.ensures));
    }

pub returns-in_default : goal.returns-in_default
returns-in_default c =
    let all = toward c.args.backward c.args.entries in let so_far = c.loop-index.invariant in
    let most = min (length c.args.keys.now) (length c.args.values.now) in
    let end = none-behind all c.loop-index.index (sym so_far.left ∙ c.in_default.ensures.none) in
    let count : c.loop-index.index ≡ min most (length all) = omega (arith, end, so_far.enough, c.loop-index-test.true, c.min-room.ensures) in record {
      count = count ∙ sym (length-take most all);
      keys = so_far.keys ∙ all-written (λ e. e.0) all c.args.keys.now most c.loop-index.index count;
      values = so_far.values ∙ all-written (λ e. e.1) all c.args.values.now most c.loop-index.index count;
    }

pub returns : goal.returns
returns c =
    let all = toward c.args.backward c.args.entries in let so_far = c.loop-index.invariant in
    let most = min (length c.args.keys.now) (length c.args.values.now) in
    let count : c.loop-index.index ≡ min most (length all) = omega (arith, so_far.enough, c.loop-index-test.false, c.loop-index.auto.index-end, c.min-room.ensures) in record {
      count = omega (arith, count, length-take most all, c.loop-index-test.false, c.loop-index.auto.index-end);
      keys = so_far.keys ∙ all-written (λ e. e.0) all c.args.keys.now most c.loop-index.index count;
      values = so_far.values ∙ all-written (λ e. e.1) all c.args.values.now most c.loop-index.index count;
    }
