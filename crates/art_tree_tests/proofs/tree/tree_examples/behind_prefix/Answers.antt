use Rattle.std.proofs.Common.{◌≡◌, ◌∙◌, ◌<◌, ◌^◌, lit<, subst}
use Rattle.art_nodes.specs.Pointers.{opaque_pointer, slab_key}
use Rattle.art_arena.specs.Arena.{held, HeldInner}
use Rattle.art_arena.specs.Standing.{TreeUnder}
use Rattle.art_tree_tests.proofs.tree.tree_examples.behind_prefix.Goals as goal

pub match_full_prefix-requires : goal.match_full_prefix-requires
match_full_prefix-requires g c =
    let text = g.K.AsBytes.text in
    let arena = c.args.arena.now in
    let pointer = opaque_pointer g.N.Node.TYPE (slab_key c.args.node) in
    let node = g.N.InnerNodeRead.inner c.as_ref.result.now in
    let is : held arena pointer ≡ HeldInner node = c.as_ref.ensures ∙ g.met.N.ArenaInnerNode.shown c.as_ref.result.now in
    let at = c.requires.tree.0 in
    let under = (c.each_node_of_a_tree_has_a_tree.ensures.node arena pointer node at is).0 in
    let found : g.row.PREFIX_LEN < node.prefix_len → TreeUnder text arena node c.args.depth = λ _. subst (TreeUnder text arena node) c.requires.tree.1 under in
    -- the size in memory of a mismatch
    let fits : 40 < 2 ^ 63 = lit< tt in
    search
