use Rattle.std.specs.Borrow.{Bor}
use Rattle.art_set.proofs.EndKeys.{first-says}
use Rattle.art_set.proofs.set.Set.first.Goals as goal

pub returns-clause-member : goal.returns-clause-member
returns-clause-member g c =
    (first-says g.K.Ord.cmp g.met.K.Ord.total (λ (key : Bor g.row.K.Denot). key.now) c.iter.result c.args.self.now c.next.new.self c.iter.ensures.keys c.iter.ensures.ordered c.next.result c.next.ensures.steps).0

pub returns-clause-least : goal.returns-clause-least
returns-clause-least g c =
    (first-says g.K.Ord.cmp g.met.K.Ord.total (λ (key : Bor g.row.K.Denot). key.now) c.iter.result c.args.self.now c.next.new.self c.iter.ensures.keys c.iter.ensures.ordered c.next.result c.next.ensures.steps).1

pub returns-clause-all_from : goal.returns-clause-all_from
returns-clause-all_from g c =
    (first-says g.K.Ord.cmp g.met.K.Ord.total (λ (key : Bor g.row.K.Denot). key.now) c.iter.result c.args.self.now c.next.new.self c.iter.ensures.keys c.iter.ensures.ordered c.next.result c.next.ensures.steps).2

pub returns-clause-none : goal.returns-clause-none
returns-clause-none g c =
    (first-says g.K.Ord.cmp g.met.K.Ord.total (λ (key : Bor g.row.K.Denot). key.now) c.iter.result c.args.self.now c.next.new.self c.iter.ensures.keys c.iter.ensures.ordered c.next.result c.next.ensures.steps).3
