use Rattle.std.proofs.Common.{subst}
use Rattle.std.specs.Iterator.{YieldsLast}
use Rattle.art_index.proofs.UpToLemmas.{taken-before, taken-none, taken-own}
use Rattle.art_index.proofs.search.child_up_to.Goals as goal

pub returns-clause-own : goal.returns-clause-own
returns-clause-own g c =
    let children = (g.N.InnerNodeRead.inner c.args.node.now).children in
    taken-own c.args.byte children c.iter-all.ensures.sound.ascending c.next_back.result c.next_back.new.self
    (subst (λ all. YieldsLast (λ pairs. pairs) all c.next_back.result c.next_back.new.self) c.range-children.ensures c.next_back.ensures.steps)

pub returns-clause-below : goal.returns-clause-below
returns-clause-below g c =
    let children = (g.N.InnerNodeRead.inner c.args.node.now).children in
    taken-before c.args.byte children c.iter-all.ensures.sound.ascending c.next_back.result c.next_back.new.self
    (subst (λ all. YieldsLast (λ pairs. pairs) all c.next_back.result c.next_back.new.self) c.range-children.ensures c.next_back.ensures.steps)

pub returns-clause-none : goal.returns-clause-none
returns-clause-none g c =
    let children = (g.N.InnerNodeRead.inner c.args.node.now).children in
    taken-none c.args.byte children c.iter-all.ensures.sound.ascending c.next_back.result c.next_back.new.self
    (subst (λ all. YieldsLast (λ pairs. pairs) all c.next_back.result c.next_back.new.self) c.range-children.ensures c.next_back.ensures.steps)
