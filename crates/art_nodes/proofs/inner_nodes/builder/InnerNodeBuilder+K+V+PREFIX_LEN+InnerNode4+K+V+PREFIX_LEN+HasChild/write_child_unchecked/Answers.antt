use Rattle.std.proofs.Common.{ap}
use Rattle.art_nodes.proofs.BuilderLemmas.{written-more}
use Rattle.art_nodes.proofs.inner_nodes.builder.InnerNodeBuilder+K+V+PREFIX_LEN+InnerNode4+K+V+PREFIX_LEN+HasChild.write_child_unchecked.Goals as goal

pub invariant_of-self : goal.invariant_of-self
invariant_of-self g c =
    let written = ap (λ node. node.children) c.write_child_unchecked.ensures in
    written-more _ _ c.args.key_byte c.args.child c.ranges.key_byte.fits written c.self.invariant
