use Rattle.std.proofs.Common.{refl}
use Rattle.art_map.specs.Pages.{map_entries}
use Rattle.art_map.specs.Seats.{seat_place}
use Rattle.art_map.specs.Trees.{pages_of}
use Rattle.art_map.proofs.BoundLemmas.{from-included, from-excluded, from-first}
use Rattle.art_map.proofs.within.start_of.Goals as goal

pub returns-in-Included-clause-gap : goal.returns-in-Included-clause-gap
returns-in-Included-clause-gap g c =
    let head = c.args.head.now.entries in let arena = c.args.tree.now.arena in
    from-included g.Q.RadixQuery.compare c.args.start (map_entries head (pages_of arena)) (seat_place head arena c.place_of.result.0 c.place_of.result.1)
    c.in-Included.query c.in-Included.is c.place_of.ensures.gap

pub returns-in-Excluded-clause-gap : goal.returns-in-Excluded-clause-gap
returns-in-Excluded-clause-gap g c =
    let head = c.args.head.now.entries in let arena = c.args.tree.now.arena in
    from-excluded g.Q.RadixQuery.compare c.args.start (map_entries head (pages_of arena))
    (seat_place head arena c.place_of-in-Excluded.result.0 c.place_of-in-Excluded.result.1) c.in-Excluded.query c.in-Excluded.is c.place_of-in-Excluded.ensures.gap

pub returns-in-Unbounded-clause-gap : goal.returns-in-Unbounded-clause-gap
returns-in-Unbounded-clause-gap g c =
    let head = c.args.head.now.entries in let arena = c.args.tree.now.arena in
    from-first g.Q.RadixQuery.compare c.args.start (map_entries head (pages_of arena)) 0 c.in-Unbounded.is refl
