use Rattle.std.specs.Borrow.{Bor}
use Rattle.art_set.proofs.EndKeys.{last-says}
use Rattle.art_set.proofs.set.Set.last.Goals as goal

pub returns-clause-member : goal.returns-clause-member
returns-clause-member g c =
    (last-says g.K.Ord.cmp g.met.K.Ord.total (λ (key : Bor g.row.K.Denot). key.now) c.iter.result c.args.self.now c.next_back.new.self c.iter.ensures.keys c.iter.ensures.ordered c.next_back.result c.next_back.ensures.steps).0

pub returns-clause-greatest : goal.returns-clause-greatest
returns-clause-greatest g c =
    (last-says g.K.Ord.cmp g.met.K.Ord.total (λ (key : Bor g.row.K.Denot). key.now) c.iter.result c.args.self.now c.next_back.new.self c.iter.ensures.keys c.iter.ensures.ordered c.next_back.result c.next_back.ensures.steps).1

pub returns-clause-all_up_to : goal.returns-clause-all_up_to
returns-clause-all_up_to g c =
    (last-says g.K.Ord.cmp g.met.K.Ord.total (λ (key : Bor g.row.K.Denot). key.now) c.iter.result c.args.self.now c.next_back.new.self c.iter.ensures.keys c.iter.ensures.ordered c.next_back.result c.next_back.ensures.steps).2

pub returns-clause-none : goal.returns-clause-none
returns-clause-none g c =
    (last-says g.K.Ord.cmp g.met.K.Ord.total (λ (key : Bor g.row.K.Denot). key.now) c.iter.result c.args.self.now c.next_back.new.self c.iter.ensures.keys c.iter.ensures.ordered c.next_back.result c.next_back.ensures.steps).3
