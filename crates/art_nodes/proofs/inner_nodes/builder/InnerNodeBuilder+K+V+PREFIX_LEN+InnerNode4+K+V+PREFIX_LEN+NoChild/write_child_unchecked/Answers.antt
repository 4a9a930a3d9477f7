use Rattle.std.proofs.Common.{ap}
use Rattle.art_nodes.proofs.BuilderLemmas.{written-first}
use Rattle.art_nodes.proofs.inner_nodes.builder.InnerNodeBuilder+K+V+PREFIX_LEN+InnerNode4+K+V+PREFIX_LEN+NoChild.write_child_unchecked.Goals as goal

pub invariant_of-result : goal.invariant_of-result
invariant_of-result g c =
    let written = ap (λ node. node.children) c.write_child_unchecked.ensures in
    written-first _ _ c.args.key_byte c.args.first_child c.ranges.key_byte.fits written c.self.invariant
