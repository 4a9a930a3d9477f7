use Rattle.std.proofs.Common.{◌∙◌, length, refl}
use Rattle.art_tree_tests.proofs.arena.full_prefix.fork_of_leaves.Goals as goal

pub returns : goal.returns
returns g c =
    let a = c.in_ok-first.ensures.planted in
    let again = c.in_ok-second.ensures.kept c.in_ok-first.first a.0 in
    let b = c.in_ok-second.ensures.planted in
    c.fork.ensures (length c.args.path.now) refl again.0 (again.1 ∙ a.1) b.0 b.1
