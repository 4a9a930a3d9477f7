use Rattle.art_tree_tests.proofs.arena.full_prefix.match_alike.Goals as goal

pub returns : goal.returns
returns g c =
    let (under, other_under, same) = c.requires.same in
    c.same_trees_match_alike.ensures c.args.arena.now c.args.other_arena.now (g.N.InnerNodeRead.inner c.args.node.now) (g.M.InnerNodeRead.inner c.args.other.now) c.args.depth c.args.key.now _ _ under other_under same
    (c.match_full_prefix.ensures.matched under) (c.match_full_prefix-2.ensures.matched other_under)
