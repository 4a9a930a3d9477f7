use Rattle.std.proofs.Common.{IsNone, sym, ap, subst}
use Rattle.art_nodes.specs.ChildMap.{child_at}
use Rattle.art_nodes.proofs.BuilderLemmas.{written-second}
use Rattle.art_nodes.proofs.inner_nodes.builder.InnerNodeBuilder+K+V+PREFIX_LEN+N+HasOneChild.write_child.Goals as goal

pub invariant_of-result : goal.invariant_of-result
invariant_of-result g c =
    let written = ap (λ node. node.children) c.write_child.ensures.written in
    let differs = subst (λ node. IsNone (child_at (g.N.InnerNodeRead.inner node).children c.args.key_byte)) (sym c.self.view_is) c.requires.differs in
    written-second _ _ c.args.key_byte c.args.second_child c.ranges.key_byte.fits written c.self.invariant differs
