use Rattle.std.proofs.Common.{◌≡◌, ◌<◌, subst, sym, arith}
use Rattle.art_arena.specs.Standing.{TreeUnder}
use Rattle.art_tree_tests.proofs.PlantLemmas.{built_pair, forked}
use Rattle.art_tree_tests.proofs.arena.full_prefix.fork.Goals as goal

pub returns : goal.returns
returns g c = λ depth deep a a_path b b_path.
    let low = c.args.low in
    let high = c.args.high in
    let ascend : low.0 < high.0 = c.requires.ascending in
    let byte : high.0 < 256 = omega arith in
    let built = built_pair g.row.PREFIX_LEN c.args.prefix.now low high c.builder.result c.write_child.result c.write_child-2.result c.build.result ascend c.builder.ensures c.write_child.ensures c.write_child-2.ensures c.build.ensures.node in
    subst (λ node. (under : TreeUnder g.K.AsBytes.text c.args.arena.now node depth) × (under.path ≡ c.args.path.now)) (sym built)
    (forked g.K.AsBytes.text c.args.arena.now c.args.path.now c.args.prefix.now low high ascend byte a a_path b b_path depth deep)
