use Rattle.std.proofs.Common.{◌∙◌, ap}
use Rattle.std.specs.Option.{is_some}
use Rattle.art_set.proofs.ListLemmas.{found-equal, gets-key, has-key}
use Rattle.art_set.proofs.set.Set.get.Goals as goal

pub returns-in-Some-clause-key : goal.returns-in-Some-clause-key
returns-in-Some-clause-key g c = c.in-Some.ensures.key ∙ gets-key c.self.inside.entries c.args.self.now c.self.view_is (g.Q.RadixQuery.compare c.args.key)

pub returns-in-Some-clause-same_key : goal.returns-in-Some-clause-same_key
returns-in-Some-clause-same_key g c =
    found-equal (g.Q.RadixQuery.compare c.args.key) c.args.self.now c.in-Some.key.now
    (c.in-Some.ensures.key ∙ gets-key c.self.inside.entries c.args.self.now c.self.view_is (g.Q.RadixQuery.compare c.args.key))

pub returns-in-Some-clause-variant : goal.returns-in-Some-clause-variant
returns-in-Some-clause-variant g c =
    ap is_some c.in-Some.ensures.value ∙ has-key c.self.inside.entries c.args.self.now c.self.view_is (g.Q.RadixQuery.compare c.args.key)

pub returns-in-None-clause-key : goal.returns-in-None-clause-key
returns-in-None-clause-key g c = c.in-None.ensures.key ∙ gets-key c.self.inside.entries c.args.self.now c.self.view_is (g.Q.RadixQuery.compare c.args.key)

pub returns-in-None-clause-variant : goal.returns-in-None-clause-variant
returns-in-None-clause-variant g c =
    ap is_some c.in-None.ensures.value ∙ has-key c.self.inside.entries c.args.self.now c.self.view_is (g.Q.RadixQuery.compare c.args.key)
