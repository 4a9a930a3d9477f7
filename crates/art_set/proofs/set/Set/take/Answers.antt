use Rattle.std.proofs.Common.{◌∙◌, ap}
use Rattle.std.specs.Option.{is_some}
use Rattle.art_set.proofs.ListLemmas.{found-equal, gets-key, has-key, removes-key}
use Rattle.art_set.proofs.set.Set.take.Goals as goal

pub returns-clause-key : goal.returns-clause-key
returns-clause-key g c = c.in-Some.ensures.key ∙ gets-key c.self.inside.entries c.args.self.now c.self.view_is (g.Q.RadixQuery.compare c.args.key)

pub returns-clause-keys : goal.returns-clause-keys
returns-clause-keys g c =
    removes-key c.self.inside.entries c.args.self.now c.self.view_is (g.Q.RadixQuery.compare c.args.key) c.remove_entry.new.self c.remove_entry.ensures.entries

pub returns-in_default-clause-key : goal.returns-in_default-clause-key
returns-in_default-clause-key g c = c.in_default.ensures.key ∙ gets-key c.self.inside.entries c.args.self.now c.self.view_is (g.Q.RadixQuery.compare c.args.key)

pub returns-in_default-clause-keys : goal.returns-in_default-clause-keys
returns-in_default-clause-keys g c =
    removes-key c.self.inside.entries c.args.self.now c.self.view_is (g.Q.RadixQuery.compare c.args.key) c.remove_entry.new.self c.remove_entry.ensures.entries

pub returns-clause-same_key : goal.returns-clause-same_key
returns-clause-same_key g c =
    found-equal (g.Q.RadixQuery.compare c.args.key) c.args.self.now c.in-Some.key
    (c.in-Some.ensures.key ∙ gets-key c.self.inside.entries c.args.self.now c.self.view_is (g.Q.RadixQuery.compare c.args.key))

pub returns-clause-variant : goal.returns-clause-variant
returns-clause-variant g c =
    ap is_some c.in-Some.ensures.value ∙ has-key c.self.inside.entries c.args.self.now c.self.view_is (g.Q.RadixQuery.compare c.args.key)

pub returns-in_default-clause-variant : goal.returns-in_default-clause-variant
returns-in_default-clause-variant g c =
    ap is_some c.in_default.ensures.value ∙ has-key c.self.inside.entries c.args.self.now c.self.view_is (g.Q.RadixQuery.compare c.args.key)
