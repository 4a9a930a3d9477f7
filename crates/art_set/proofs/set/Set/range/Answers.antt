use Rattle.std.proofs.Common.{◌∙◌, subst, sym}
use Rattle.std.specs.BTreeMap.Range.{range_contains}
use Rattle.art_map.specs.Ranges.{IsPartOf}
use Rattle.art_set.proofs.ListLemmas.{filters-keys, part-of-keys}
use Rattle.art_set.proofs.set.Set.range.Goals as goal

pub returns-clause-between : goal.returns-clause-between
returns-clause-between g c = λ has.
    c.keys.ensures
    ∙ filters-keys c.self.inside.entries c.args.self.now c.self.view_is
    (range_contains g.K.Ord.cmp (g.R.RangeBounds.start_bound c.args.range) (g.R.RangeBounds.end_bound c.args.range)) c.range.result (c.range.ensures.between has)

pub returns-clause-contiguous : goal.returns-clause-contiguous
returns-clause-contiguous g c =
    subst (IsPartOf c.args.self.now) (sym c.keys.ensures) (part-of-keys c.self.inside.entries c.args.self.now c.self.view_is c.range.result c.range.ensures.contiguous)
