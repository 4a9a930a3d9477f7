use Rattle.std.proofs.Common.{◌∙◌, subst, sym}
use Rattle.art_map.specs.Ranges.{IsPartOf}
use Rattle.art_set.proofs.ListLemmas.{filters-keys, part-of-keys}
use Rattle.art_set.proofs.set.Set.prefix.Goals as goal

pub returns-clause-begun : goal.returns-clause-begun
returns-clause-begun g c =
    c.keys.ensures ∙ filters-keys c.self.inside.entries c.args.self.now c.self.view_is (g.P.PrefixQuery.begins c.args.prefix) c.prefix.result c.prefix.ensures.begun

pub returns-clause-contiguous : goal.returns-clause-contiguous
returns-clause-contiguous g c =
    subst (IsPartOf c.args.self.now) (sym c.keys.ensures) (part-of-keys c.self.inside.entries c.args.self.now c.self.view_is c.prefix.result c.prefix.ensures.contiguous)
