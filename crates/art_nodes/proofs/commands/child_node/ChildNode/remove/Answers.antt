use Rattle.std.proofs.Common.{length, rules}
use Rattle.art_nodes.specs.AnyInner.{inner_of, kind_of}
use Rattle.art_nodes.specs.ChildMap.{without_child}
use Rattle.art_nodes.proofs.KindLemmas.{IsOfKind, IsOfKind-smallest, removed_counts, shrunk-remove, kept-remove, fits-shrunk}
use Rattle.art_nodes.proofs.commands.child_node.ChildNode.remove.Goals as goal

pub invariant_of-self : goal.invariant_of-self
invariant_of-self g c =
    let any = c.self.inside.node in
    let children = (inner_of any).children in
    let sound = c.remove_child-old_child.ensures.sound in
    let of : IsOfKind (kind_of any) (length children) = IsOfKind-smallest _ _ c.self.invariant sound.fits in
    let counts = removed_counts children c.args.byte sound.ascending in
    let below = rw (c.remove_child-old_child.ensures.kind, c.remove_child-old_child.ensures.removed) at (c.is_below_range.ensures.value.0 c.if-is_below_range.true) in
    rw (c.shrink.ensures.kind, c.shrink.ensures.same, c.remove_child-old_child.ensures.kind, c.remove_child-old_child.ensures.removed) (shrunk-remove (kind_of any) (length children) (length (without_child children c.args.byte)) of counts.many below.0 below.1)

pub invariant_of-self-else-is_below_range : goal.invariant_of-self-else-is_below_range
invariant_of-self-else-is_below_range g c =
    let any = c.self.inside.node in
    let children = (inner_of any).children in
    let sound = c.remove_child-old_child.ensures.sound in
    let of : IsOfKind (kind_of any) (length children) = IsOfKind-smallest _ _ c.self.invariant sound.fits in
    let counts = removed_counts children c.args.byte sound.ascending in
    let below = rw (c.remove_child-old_child.ensures.kind, c.remove_child-old_child.ensures.removed) at c.is_below_range.ensures.value.1 in
    rw (c.remove_child-old_child.ensures.kind, c.remove_child-old_child.ensures.removed) (kept-remove (kind_of any) (length children) (length (without_child children c.args.byte)) of counts.few (λ both. (let yes = below both in cc)))

pub shrink-requires : goal.shrink-requires
shrink-requires g c =
    let any = c.remove_child-old_child.new.self in
    let below = c.is_below_range.ensures.value.0 c.if-is_below_range.true in
    (search rules, (below.0, fits-shrunk (kind_of any) (length (inner_of any).children) below.0 below.1))
