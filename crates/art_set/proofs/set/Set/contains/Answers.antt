use Rattle.std.proofs.Common.{◌∙◌}
use Rattle.art_set.proofs.ListLemmas.{has-key}
use Rattle.art_set.proofs.set.Set.contains.Goals as goal

pub returns : goal.returns
returns g c = c.contains_key.ensures ∙ has-key c.self.inside.entries c.args.self.now c.self.view_is (g.Q.RadixQuery.compare c.args.key)
