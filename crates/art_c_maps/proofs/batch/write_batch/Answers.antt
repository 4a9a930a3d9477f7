use Rattle.std.proofs.Common.{◌≡◌, ◌≤◌, ◌<◌, ◌+◌, ◌-◌, ◌∙◌, ℕ, List, [], ◌∷◌, ◌++◌, length, min, take, drop, set, refl, sym, ap, arith}
use Rattle.std.proofs.lemmas.List.{drop-map, length-append}
use Rattle.art_c_maps.specs.Batch.{ends_after, ends_of, fit_count, joined_keys, toward}
use Rattle.art_c_maps.specs.Entries.{entries_in_bytes, keys_of, values_of}
use Rattle.art_c_maps.proofs.BatchLemmas.{big-ends, big-unfit, count-done, ends-done, ends-left, joined_keys-one, key-written, keys-done, most-ends, none-ends, none-unfit, one-fits, some-unfit, values-done}
use Rattle.art_c_maps.proofs.WriteLemmas.{left-behind, one-written}
use Rattle.art_c_maps.proofs.batch.write_batch.Goals as goal

pub returns-then-room-eq0 : goal.returns-then-room-eq0
returns-then-room-eq0 c =
    let none : min (length c.args.ends.now) (length c.args.values.now) ≡ 0 = omega (arith, c.if-room-eq0.true, c.min-room.ensures) in
    record {
      count = rw none refl;
      unfit = rw none c.next_len.ensures;
      keys = rw none refl;
      ends = rw none refl;
      values = rw none refl;
    }

pub returns-in_default : goal.returns-in_default
returns-in_default c =
    let all = toward c.args.backward (entries_in_bytes c.args.entries) in
    let most = min (length c.args.ends.now) (length c.args.values.now) in let size = length c.args.keys.now in
    let k = c.loop-index.index in let at = c.loop-index.at in let so_far = c.loop-index.invariant in let n = fit_count most size all in
    let none : drop k all ≡ [] = sym so_far.left ∙ c.in_default.ensures.none in
    let end : n ≡ k = none-ends all most size k at none so_far.fits in
    record {
      count = count-done all n k end so_far.enough;
      unfit = none-unfit all n k end so_far.enough none;
      keys = so_far.keys ∙ keys-done all n k end so_far.enough c.args.keys.now at so_far.at;
      ends = so_far.ends ∙ ends-done all n k end so_far.enough c.args.ends.now;
      values = so_far.values ∙ values-done all n k end so_far.enough c.args.values.now;
    }

pub returns-then-len-keys : goal.returns-then-len-keys
returns-then-len-keys c =
    let all = toward c.args.backward (entries_in_bytes c.args.entries) in
    let most = min (length c.args.ends.now) (length c.args.values.now) in let size = length c.args.keys.now in
    let k = c.loop-index.index in let at = c.loop-index.at in let so_far = c.loop-index.invariant in let n = fit_count most size all in
    let x : List ℕ × ℕ = (c.in-Some.key.now, c.in-Some.value) in
    let rest = toward c.args.backward (entries_in_bytes c.next_bytes.new.entries) in
    let here : drop k all ≡ x ∷ rest = sym so_far.left ∙ c.in-Some.ensures.some in
    let big : size - at < length x.0 = omega (arith, c.if-len-keys.true, c.loop-index.auto.keys) in
    let end : n ≡ k = big-ends all most size k at x rest here (omega (arith, c.loop-index-test.true, c.min-room.ensures)) big so_far.fits in
    record {
      count = count-done all n k end so_far.enough;
      unfit = big-unfit all n k end (length x.0) c.unfit_at.result x rest here refl c.unfit_at.ensures.first c.unfit_at.ensures.others;
      keys = so_far.keys ∙ keys-done all n k end so_far.enough c.args.keys.now at so_far.at;
      ends = so_far.ends ∙ ends-done all n k end so_far.enough c.args.ends.now;
      values = so_far.values ∙ values-done all n k end so_far.enough c.args.values.now;
    }

pub returns : goal.returns
returns c =
    let all = toward c.args.backward (entries_in_bytes c.args.entries) in
    let most = min (length c.args.ends.now) (length c.args.values.now) in let size = length c.args.keys.now in
    let k = c.loop-index.index in let at = c.loop-index.at in let so_far = c.loop-index.invariant in let n = fit_count most size all in
    let end : n ≡ k = most-ends all most size k at (omega (arith, c.loop-index-test.false, c.loop-index.auto.index-end, c.min-room.ensures)) so_far.fits in
    record {
      count = omega (arith, count-done all n k end so_far.enough, c.loop-index-test.false, c.loop-index.auto.index-end, c.min-room.ensures);
      unfit = some-unfit all n k end so_far.enough (omega (arith, c.if-room-eq0.false, c.loop-index-test.false));
      keys = so_far.keys ∙ keys-done all n k end so_far.enough c.args.keys.now at so_far.at;
      ends = so_far.ends ∙ ends-done all n k end so_far.enough c.args.ends.now;
      values = so_far.values ∙ values-done all n k end so_far.enough c.args.values.now;
    }

pub loop-index-preserved : goal.loop-index-preserved
loop-index-preserved c =
    let all = toward c.args.backward (entries_in_bytes c.args.entries) in
    let most = min (length c.args.ends.now) (length c.args.values.now) in let size = length c.args.keys.now in
    let k = c.loop-index.index in let at = c.loop-index.at in let so_far = c.loop-index.invariant in
    let x : List ℕ × ℕ = (c.in-Some.key.now, c.in-Some.value) in
    let rest = toward c.args.backward (entries_in_bytes c.next_bytes.new.entries) in
    let here : drop k all ≡ x ∷ rest = sym so_far.left ∙ c.in-Some.ensures.some in
    let behind = left-behind all k x rest here in
    let more : k < most = omega (arith, c.loop-index-test.true, c.min-room.ensures) in
    let fits : length x.0 ≤ size - at = omega (arith, c.if-len-keys.false, c.loop-index.auto.keys) in
    let wrote : c.write_behind.new.out ≡ (take at c.loop-index.keys ++ x.0) ++ drop (at + length x.0) c.loop-index.keys = c.write_behind.ensures in
    record {
      left = behind.0;
      enough = behind.1;
      at = ap (λ m. m + length x.0) so_far.at ∙ sym (length-append (joined_keys (take k (keys_of all))) x.0) ∙ ap length (sym (joined_keys-one all k x rest here));
      within = omega (arith, fits, so_far.within);
      fits = one-fits all most size k at x rest here behind.0 more fits so_far.fits;
      keys = wrote ∙ key-written (joined_keys (take k (keys_of all))) x.0 c.args.keys.now c.loop-index.keys at so_far.keys so_far.at
          ∙ ap (λ keys. keys ++ drop (at + length x.0) c.args.keys.now) (sym (joined_keys-one all k x rest here));
      ends = ap (λ xs. set xs k (at + length x.0)) so_far.ends
          ∙ one-written (ends_of all) c.args.ends.now k (at + length x.0) (ends_after (at + length x.0) rest) (ends-left all k at x rest here so_far.at) (omega (arith, more));
      values = ap (λ xs. set xs k x.1) so_far.values ∙ one-written (values_of all) c.args.values.now k x.1 (values_of rest) (drop-map (λ e. e.1) k all ∙ ap values_of here) (omega (arith, more));
    }
