use Rattle.std.proofs.Common.{◌∙◌, sym}
use Rattle.std.proofs.lemmas.List.Elements.{filter_agree}
use Rattle.art_map.proofs.BoundLemmas.{between-bounds}
use Rattle.art_map.proofs.map.Map.prefix.Goals as goal

pub returns-clause-begun : goal.returns-clause-begun
returns-clause-begun g c =
    c.between.ensures.within
    ∙ filter_agree _ (λ entry. g.P.PrefixQuery.begins c.args.prefix entry.0)
    (λ entry. between-bounds (g.P.PrefixQuery.compare_start c.args.prefix entry.0) ∙ sym (g.met.P.PrefixQuery.begins_is c.args.prefix entry.0)) c.args.self.now
