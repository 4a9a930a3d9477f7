use Rattle.std.proofs.Common.{subst}
use Rattle.std.specs.Option.{OnSome}
use Rattle.art_tree.specs.TreeLending.{HasValueNow}
use Rattle.art_tree_tests.proofs.tree.reading.set.Goals as goal

pub returns : goal.returns
returns g c = λ done.
    let HasIt = HasValueNow g.K.AsBytes.text c.args.tree.now (c.get_mut.follows.lender c.args.number) c.args.key.now c.args.number in
    let now : HasIt = subst (λ r. OnSome r HasIt) c.in-Some.is (c.get_mut.follows.holds c.args.number) in
    now.entry
