use Rattle.art_map.proofs.BoundLemmas.{past-included, past-excluded, past-last}
use Rattle.art_map.proofs.within.end_in.Goals as goal

pub returns-in-Included-clause-gap : goal.returns-in-Included-clause-gap
returns-in-Included-clause-gap g c =
    let at = c.gap_in.ensures in
    past-included g.Q.RadixQuery.compare c.args.end c.args.page.now.entries c.gap_in.result c.in-Included.query c.in-Included.is (at.1, at.2)

pub returns-in-Excluded-clause-gap : goal.returns-in-Excluded-clause-gap
returns-in-Excluded-clause-gap g c =
    let at = c.gap_in-in-Excluded.ensures in
    past-excluded g.Q.RadixQuery.compare c.args.end c.args.page.now.entries c.gap_in-in-Excluded.result c.in-Excluded.query c.in-Excluded.is (at.1, at.2)

pub returns-in-Unbounded-clause-gap : goal.returns-in-Unbounded-clause-gap
returns-in-Unbounded-clause-gap g c = past-last g.Q.RadixQuery.compare c.args.end c.args.page.now.entries c.len.result c.in-Unbounded.is c.len.ensures.len
