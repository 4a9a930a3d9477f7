use Rattle.std.proofs.Common.{[]}
use Rattle.art_tree_tests.proofs.arena.leaf_links.link_examples.push_back.Goals as goal

pub returns : goal.returns
returns g c = λ leaves. c.insert_after.ensures.linked leaves []
