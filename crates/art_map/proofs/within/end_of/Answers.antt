use Rattle.art_map.specs.Pages.{map_entries}
use Rattle.art_map.specs.Seats.{seat_place}
use Rattle.art_map.specs.Trees.{pages_of}
use Rattle.art_map.proofs.BoundLemmas.{past-included, past-excluded, past-last}
use Rattle.art_map.proofs.within.end_of.Goals as goal

pub returns-in-Included-clause-gap : goal.returns-in-Included-clause-gap
returns-in-Included-clause-gap g c =
    let head = c.args.head.now.entries in let arena = c.args.tree.now.arena in
    past-included g.Q.RadixQuery.compare c.args.end (map_entries head (pages_of arena)) (seat_place head arena c.place_of.result.0 c.place_of.result.1)
    c.in-Included.query c.in-Included.is c.place_of.ensures.gap

pub returns-in-Excluded-clause-gap : goal.returns-in-Excluded-clause-gap
returns-in-Excluded-clause-gap g c =
    let head = c.args.head.now.entries in let arena = c.args.tree.now.arena in
    past-excluded g.Q.RadixQuery.compare c.args.end (map_entries head (pages_of arena))
    (seat_place head arena c.place_of-in-Excluded.result.0 c.place_of-in-Excluded.result.1) c.in-Excluded.query c.in-Excluded.is c.place_of-in-Excluded.ensures.gap

pub returns-in-Unbounded-clause-gap : goal.returns-in-Unbounded-clause-gap
returns-in-Unbounded-clause-gap g c =
    let head = c.args.head.now.entries in let arena = c.args.tree.now.arena in
    past-last g.Q.RadixQuery.compare c.args.end (map_entries head (pages_of arena)) (seat_place head arena c.end_place.result.0 c.end_place.result.1)
    c.in-Unbounded.is c.end_place.ensures.end
