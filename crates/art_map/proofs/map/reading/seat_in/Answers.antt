use Rattle.std.proofs.Common.{sym, subst}
use Rattle.art_map.specs.Pages.{map_entries, IsPageOf}
use Rattle.art_map.specs.Trees.{pages_in, pages_of}
use Rattle.art_map.proofs.SeatLemmas.{alone}
use Rattle.art_map.proofs.map.reading.seat_in.Goals as goal

pub returns-in-None-clause-page : goal.returns-in-None-clause-page
returns-in-None-clause-page g c =
    let compare = g.Q.RadixQuery.compare c.args.query in let head = c.args.head.now.entries in
    subst (λ tree. IsPageOf compare head (map_entries head (pages_in (λ tree. pages_of tree.value.arena) tree))) (sym c.in-None.is) (alone compare head)
