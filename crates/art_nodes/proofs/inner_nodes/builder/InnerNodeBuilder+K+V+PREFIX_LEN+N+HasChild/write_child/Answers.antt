use Rattle.std.proofs.Common.{ap}
use Rattle.art_nodes.proofs.BuilderLemmas.{written-more}
use Rattle.art_nodes.proofs.inner_nodes.builder.InnerNodeBuilder+K+V+PREFIX_LEN+N+HasChild.write_child.Goals as goal

pub invariant_of-self : goal.invariant_of-self
invariant_of-self g c =
    let written = ap (λ node. node.children) c.write_child.ensures.written in
    written-more _ _ c.args.key_byte c.args.child c.ranges.key_byte.fits written c.self.invariant
