use Rattle.std.proofs.Common.{◌∙◌, ap}
use Rattle.std.specs.BTreeMap.{is_at}
use Rattle.std.specs.Option.{is_some}
use Rattle.art_set.proofs.ListLemmas.{some-found, on-false-none}
use Rattle.art_set.proofs.set.Set.remove.Goals as goal

pub returns-clause-test : goal.returns-clause-test
returns-clause-test g c = c.is_some.ensures ∙ ap is_some c.take.ensures.key ∙ some-found (is_at (g.Q.RadixQuery.compare c.args.key)) c.args.self.now

pub returns-clause-unchanged : goal.returns-clause-unchanged
returns-clause-unchanged g c = on-false-none _ c.take.result c.is_some.result c.is_some.ensures c.take.ensures.unchanged
