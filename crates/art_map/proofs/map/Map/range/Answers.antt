use Rattle.std.proofs.Common.{◌∙◌}
use Rattle.std.specs.BTreeMap.Range.{entries_between}
use Rattle.art_map.proofs.BoundLemmas.{range-same}
use Rattle.art_map.proofs.map.Map.range.Goals as goal

pub returns-clause-between : goal.returns-clause-between
returns-clause-between g c = λ has.
    c.between.ensures.within ∙ range-same g.K.Ord.cmp c.start_bound.result c.end_bound.result c.args.self.now
    ∙ (λ i. entries_between g.K.Ord.cmp (c.start_bound.ensures has i) (c.end_bound.ensures has i) c.args.self.now)
