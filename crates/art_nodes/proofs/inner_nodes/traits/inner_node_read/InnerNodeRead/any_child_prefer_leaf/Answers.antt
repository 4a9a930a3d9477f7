use Rattle.std.proofs.Common.{ap, ◌∙◌, ◌++◌, sym, append_assoc}
use Rattle.art_nodes.proofs.PairLemmas.{contains-between, contains-first}
use Rattle.art_nodes.proofs.inner_nodes.traits.inner_node_read.InnerNodeRead.any_child_prefer_leaf.Goals as goal

pub returns-then-eq : goal.returns-then-eq
returns-then-eq g c =
    let parted = ap (λ rest. c.loop-child.yielded ++ rest) (sym c.in-Some.ensures.steps) ∙ c.loop-child.invariant.parted in
    contains-between c.loop-child.yielded c.next.new.self _ (c.in-Some.field-0-0, c.in-Some.child) parted

pub returns : goal.returns
returns g c = contains-first (g.Self.InnerNodeRead.inner c.args.self.now).children c.min.result c.min.ensures.pair

pub loop-child-preserved : goal.loop-child-preserved
loop-child-preserved g c =
    let parted = ap (λ rest. c.loop-child.yielded ++ rest) (sym c.in-Some.ensures.steps) ∙ c.loop-child.invariant.parted in
    record { callable = tt; finite = tt; parted = append_assoc c.loop-child.yielded _ _ ∙ parted }
