use Rattle.std.proofs.Common.{sym, ◌∙◌}
use Rattle.art_keys.specs.PrefixLaws.{between}
use Rattle.art_keys.proofs.laws.prefixes_are_between.Goals as goal

pub returns : goal.returns
returns g c = λ q x. between (g.P.PrefixQuery.compare_start q x) ∙ sym (g.met.P.PrefixQuery.begins_is q x)
