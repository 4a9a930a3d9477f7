use Rattle.std.proofs.Common.{◌∙◌, ◌&&◌, not, subst, sym}
use Rattle.art_map.specs.Ranges.{IsPartOf, is_from, is_past}
use Rattle.art_set.proofs.ListLemmas.{filters-keys, part-of-keys}
use Rattle.art_set.proofs.set.Set.within.Goals as goal

pub returns-clause-between : goal.returns-clause-between
returns-clause-between g c = λ has.
    let start = g.R.RangeBounds.start_bound c.args.range in
    let end = g.R.RangeBounds.end_bound c.args.range in
    c.keys.ensures
    ∙ filters-keys c.self.inside.entries c.args.self.now c.self.view_is
    (λ key. is_from g.Q.RadixQuery.compare start key && not (is_past g.Q.RadixQuery.compare end key)) c.within.result (c.within.ensures.between has)

pub returns-clause-contiguous : goal.returns-clause-contiguous
returns-clause-contiguous g c =
    subst (IsPartOf c.args.self.now) (sym c.keys.ensures) (part-of-keys c.self.inside.entries c.args.self.now c.self.view_is c.within.result c.within.ensures.contiguous)
