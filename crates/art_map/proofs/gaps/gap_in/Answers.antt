use Rattle.std.proofs.Common.{◌+◌, sym, subst}
use Rattle.art_map.specs.Gaps.{IsGapAt}
use Rattle.art_map.proofs.GapLemmas.{gap_at, gap_behind, gap_between}
use Rattle.art_map.proofs.gaps.gap_in.Goals as goal

pub returns-then-after : goal.returns-then-after
returns-then-after g c =
    let compare = g.Q.RadixQuery.compare c.args.query in let entries = c.args.page.now.entries in
    subst (λ after. IsGapAt compare after entries (c.in-Ok.place + 1)) (sym c.if-after.true) (gap_behind compare entries c.in-Ok.place c.in-Ok.ensures)

pub returns-else-after : goal.returns-else-after
returns-else-after g c =
    let compare = g.Q.RadixQuery.compare c.args.query in let entries = c.args.page.now.entries in
    subst (λ after. IsGapAt compare after entries c.in-Ok.place) (sym c.if-after.false) (gap_at compare entries c.in-Ok.place c.in-Ok.ensures)

pub returns-in-Err : goal.returns-in-Err
returns-in-Err g c = gap_between (g.Q.RadixQuery.compare c.args.query) c.args.after c.args.page.now.entries c.in-Err.place c.in-Err.ensures
