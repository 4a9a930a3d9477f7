use Rattle.std.proofs.Common.{◌∙◌, ℕ, length, take, sym, subst, arith}
use Rattle.art_c_maps.specs.Entries.{entries_in_bytes}
use Rattle.art_c_maps.specs.Lent.{IsLent, LendsNext}
use Rattle.art_c_maps.proofs.LendLemmas.{filled-up, one-filled}
use Rattle.art_c_maps.proofs.WriteLemmas.{left-behind, none-behind}
use Rattle.art_c_maps.proofs.lending.lend_entries.Goals as goal

pub loop-index-preserved : goal.loop-index-preserved
loop-index-preserved c =
    let all = entries_in_bytes c.args.entries in let rest = entries_in_bytes c.next_bytes.new.entries in
    let so_far = c.loop-index.invariant in let k = c.loop-index.index in
    let here = sym so_far.left ∙ c.in-Some.ensures.some in record {
      left = (left-behind all k (c.in-Some.key.now, c.in-Some.value) rest here).0;
      filled = one-filled (IsLent c.args.loan.now.life) all c.args.out.now c.loop-index.out k (c.in-Some.key.now, c.in-Some.value) rest c.of.result here c.of.ensures (omega (arith, c.loop-index-test.true, c.loop-index.auto.out)) so_far.filled;
    }

pub returns-in_default : goal.returns-in_default
returns-in_default c =
    let all = entries_in_bytes c.args.entries in let so_far = c.loop-index.invariant in let k = c.loop-index.index in
    let end = none-behind all k (sym so_far.left ∙ c.in_default.ensures.none) in
    let up = filled-up (IsLent c.args.loan.now.life) all c.args.out.now c.loop-index.out k (length c.args.out.now) (omega (arith, end, so_far.filled.enough, c.loop-index-test.true)) so_far.filled in record {
      counts = up.0;
      lent = up.1;
      others = up.2;
    }

pub returns : goal.returns
returns c =
    let all = entries_in_bytes c.args.entries in let so_far = c.loop-index.invariant in let k = c.loop-index.index in
    let up = filled-up (IsLent c.args.loan.now.life) all c.args.out.now c.loop-index.out k (length c.args.out.now) (omega (arith, so_far.filled.enough, c.loop-index-test.false, c.loop-index.auto.index-end)) so_far.filled in
    let lends : LendsNext c.args.loan.now.life (take (length c.args.out.now) all) c.args.out.now c.loop-index.out k = record { counts = up.0; lent = up.1; others = up.2 } in
    subst (λ (n : ℕ). LendsNext c.args.loan.now.life (take (length c.args.out.now) all) c.args.out.now c.loop-index.out n) (omega (arith, c.loop-index-test.false, c.loop-index.auto.index-end)) lends
