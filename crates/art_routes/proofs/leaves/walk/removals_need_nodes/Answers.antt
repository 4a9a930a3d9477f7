use Rattle.art_routes.specs.Keys.{key_text}
use Rattle.art_routes.proofs.ShrinkLemmas.{needs-node}
use Rattle.art_routes.proofs.leaves.walk.removals_need_nodes.Goals as goal

pub returns : goal.returns
returns g c = λ text needs. needs-node key_text c.args.tree.now.arena c.args.tree.now.root text c.root-root.ensures.one_tree needs
