use Rattle.std.proofs.Common.{◌∙◌, sym, subst}
use Rattle.art_routes.specs.Changes.{ChangesAreInOrder, change_to, with_changes}
use Rattle.art_routes.specs.Differences.{differences}
use Rattle.art_routes.proofs.ChangeLemmas.{applied, each, in-order}
use Rattle.art_routes.proofs.difference.RouteTable+V.difference.Goals as goal

pub returns-clause-order : goal.returns-clause-order
returns-clause-order g c =
    let eq = g.V.PartialEq.eq in
    let routes = c.args.self.now in
    let others = c.args.new.now in
    subst ChangesAreInOrder (λ i. differences eq (sym (c.of.ensures ∙ c.iter.ensures) i) (sym (c.of-2.ensures ∙ c.iter-2.ensures) i))
    (in-order eq routes others c.routes_ascend.ensures.order c.routes_ascend-2.ensures.order)

pub returns-clause-each : goal.returns-clause-each
returns-clause-each g c = λ network.
    let eq = g.V.PartialEq.eq in
    let routes = c.args.self.now in
    let others = c.args.new.now in
    (λ i. change_to network (differences eq ((c.of.ensures ∙ c.iter.ensures) i) ((c.of-2.ensures ∙ c.iter-2.ensures) i)))
    ∙ each eq routes others c.routes_ascend.ensures.order c.routes_ascend-2.ensures.order network

pub returns-clause-applied : goal.returns-clause-applied
returns-clause-applied g c = λ one.
    let eq = g.V.PartialEq.eq in
    let routes = c.args.self.now in
    let others = c.args.new.now in
    (λ i. with_changes routes (differences eq ((c.of.ensures ∙ c.iter.ensures) i) ((c.of-2.ensures ∙ c.iter-2.ensures) i)))
    ∙ applied eq one routes others c.routes_ascend.ensures.order c.routes_ascend-2.ensures.order
