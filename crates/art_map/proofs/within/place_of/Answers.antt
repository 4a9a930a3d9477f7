use Rattle.art_map.proofs.SpanLemmas.{seat-gap, seat-inside}
use Rattle.art_map.proofs.within.place_of.Goals as goal

pub returns-clause-inside : goal.returns-clause-inside
returns-clause-inside g c =
    seat-inside c.args.head.now.entries c.args.tree.now.arena (g.Q.RadixQuery.compare c.args.query) c.args.after
    c.seat_of.result.0 c.seat_of.result.1 c.seat_of.ensures

pub returns-clause-gap : goal.returns-clause-gap
returns-clause-gap g c =
    seat-gap c.args.head.now.entries c.args.tree.now.arena (g.Q.RadixQuery.compare c.args.query) c.args.after
    c.seat_of.result.0 c.seat_of.result.1 c.seat_of.ensures
