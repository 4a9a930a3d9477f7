use Rattle.std.proofs.Common.{◌∙◌}
use Rattle.art_map.specs.Ranges.{entries_within}
use Rattle.art_map.proofs.map.Map.within.Goals as goal

pub returns-clause-between : goal.returns-clause-between
returns-clause-between g c = λ has.
    let start = c.copy_of.ensures ∙ c.start_bound.ensures has in
    let end = c.copy_of-2.ensures ∙ c.end_bound.ensures has in
    c.between.ensures.within ∙ (λ i. entries_within g.Q.RadixQuery.compare (start i) (end i) c.args.self.now)
