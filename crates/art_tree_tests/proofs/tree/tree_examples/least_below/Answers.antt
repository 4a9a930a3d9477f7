use Rattle.std.proofs.Common.{◌≡◌, ◌∙◌, ◌<◌, ◌^◌, Some, lit<, sym}
use Rattle.art_nodes.specs.ChildMap.{child_at}
use Rattle.art_nodes.specs.Pointers.{opaque_pointer, slab_key}
use Rattle.art_arena.specs.Arena.{held, HeldInner}
use Rattle.art_arena.specs.Standing.{TreeAt}
use Rattle.art_tree_tests.proofs.tree.tree_examples.least_below.Goals as goal

pub end_leaf-requires : goal.end_leaf-requires
end_leaf-requires g c =
    let arena = c.args.arena.now in
    let node = g.N.InnerNodeRead.inner c.as_ref.result.now in
    let is : held arena (opaque_pointer g.N.Node.TYPE (slab_key c.args.node)) ≡ HeldInner node = c.as_ref.ensures ∙ g.met.N.ArenaInnerNode.shown c.as_ref.result.now in
    let some : child_at node.children c.args.byte ≡ Some c.in_ok-child.child = sym c.lookup_child.ensures.child ∙ c.in_ok-child.was in
    let found : TreeAt g.K.AsBytes.text arena c.in_ok-child.child = (c.each_node_of_a_tree_has_a_tree.ensures.child arena (opaque_pointer g.N.Node.TYPE (slab_key c.args.node)) c.in_ok-child.child node c.args.byte c.requires is some).0 in
    -- the sizes in memory of an opaque pointer and of one to a leaf
    let opaque_fits : 16 < 2 ^ 63 = lit< tt in
    let leaf_fits : 8 < 2 ^ 63 = lit< tt in
    search
