use Rattle.std.proofs.Common.{inr, rules}
use Rattle.art_routes.proofs.AggregateLemmas.{alike-itself}
use Rattle.art_routes.proofs.aggregate.RouteTable+V.step.Goals as goal

pub remove_repeated-requires : goal.remove_repeated-requires
remove_repeated-requires g c =
    let (parent, above, same) = c.if-parent_has.ensures in
    (search rules, (search rules, (search rules, (search rules, (search rules, (c.args.value, parent, c.requires.listed, above, inr same))))))

pub returns-in_default-clause-same_matches : goal.returns-in_default-clause-same_matches
returns-in_default-clause-same_matches g c = λ address. alike-itself g.V.PartialEq.eq c.args.self.now address
