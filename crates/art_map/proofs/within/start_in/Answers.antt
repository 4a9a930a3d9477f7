use Rattle.std.proofs.Common.{refl}
use Rattle.art_map.proofs.BoundLemmas.{from-included, from-excluded, from-first}
use Rattle.art_map.proofs.within.start_in.Goals as goal

pub returns-in-Included-clause-gap : goal.returns-in-Included-clause-gap
returns-in-Included-clause-gap g c =
    let at = c.gap_in.ensures in
    from-included g.Q.RadixQuery.compare c.args.start c.args.page.now.entries c.gap_in.result c.in-Included.query c.in-Included.is (at.1, at.2)

pub returns-in-Excluded-clause-gap : goal.returns-in-Excluded-clause-gap
returns-in-Excluded-clause-gap g c =
    let at = c.gap_in-in-Excluded.ensures in
    from-excluded g.Q.RadixQuery.compare c.args.start c.args.page.now.entries c.gap_in-in-Excluded.result c.in-Excluded.query c.in-Excluded.is (at.1, at.2)

pub returns-in-Unbounded-clause-gap : goal.returns-in-Unbounded-clause-gap
returns-in-Unbounded-clause-gap g c = from-first g.Q.RadixQuery.compare c.args.start c.args.page.now.entries 0 c.in-Unbounded.is refl
