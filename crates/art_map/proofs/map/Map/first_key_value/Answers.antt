use Rattle.std.specs.Borrow.{Bor}
use Rattle.art_map.proofs.KeyBoundLemmas.{first-says}
use Rattle.art_map.proofs.map.Map.first_key_value.Goals as goal

pub returns-clause-value : goal.returns-clause-value
returns-clause-value g c =
    (first-says g.K.Ord.cmp g.met.K.Ord.total (λ (entry : Bor g.row.K.Denot × Bor g.row.V.Denot). (entry.0.now, entry.1.now)) c.iter.result c.args.self.now c.next.new.self c.iter.ensures.entries c.iter.ensures.ordered c.next.result c.next.ensures.steps).0

pub returns-clause-least : goal.returns-clause-least
returns-clause-least g c =
    (first-says g.K.Ord.cmp g.met.K.Ord.total (λ (entry : Bor g.row.K.Denot × Bor g.row.V.Denot). (entry.0.now, entry.1.now)) c.iter.result c.args.self.now c.next.new.self c.iter.ensures.entries c.iter.ensures.ordered c.next.result c.next.ensures.steps).1

pub returns-clause-all_from : goal.returns-clause-all_from
returns-clause-all_from g c =
    (first-says g.K.Ord.cmp g.met.K.Ord.total (λ (entry : Bor g.row.K.Denot × Bor g.row.V.Denot). (entry.0.now, entry.1.now)) c.iter.result c.args.self.now c.next.new.self c.iter.ensures.entries c.iter.ensures.ordered c.next.result c.next.ensures.steps).2

pub returns-clause-none : goal.returns-clause-none
returns-clause-none g c =
    (first-says g.K.Ord.cmp g.met.K.Ord.total (λ (entry : Bor g.row.K.Denot × Bor g.row.V.Denot). (entry.0.now, entry.1.now)) c.iter.result c.args.self.now c.next.new.self c.iter.ensures.entries c.iter.ensures.ordered c.next.result c.next.ensures.steps).3
