use Rattle.std.proofs.Common.{All, ◌<◌, sym, ap, subst}
use Rattle.art_nodes.specs.ChildMap.{key_bytes}
use Rattle.art_nodes.proofs.BuilderLemmas.{written-second, absent-above}
use Rattle.art_nodes.proofs.inner_nodes.builder.InnerNodeBuilder+K+V+PREFIX_LEN+InnerNode4+K+V+PREFIX_LEN+HasOneChild.write_child_unchecked.Goals as goal

pub invariant_of-result : goal.invariant_of-result
invariant_of-result g c =
    let written = ap (λ node. node.children) c.write_child_unchecked.ensures in
    let above = subst (λ node. All (λ byte. byte < c.args.key_byte) (key_bytes node.children)) (sym c.self.view_is) c.requires.above in
    written-second _ _ c.args.key_byte c.args.second_child c.ranges.key_byte.fits written c.self.invariant (absent-above _ c.args.key_byte above)
