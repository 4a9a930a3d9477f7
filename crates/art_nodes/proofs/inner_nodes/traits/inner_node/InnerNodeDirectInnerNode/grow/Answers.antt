use Rattle.art_nodes.proofs.ChildMapLaws.{length_absent}
use Rattle.art_nodes.proofs.inner_nodes.traits.inner_node.InnerNodeDirectInnerNode.grow.Goals as goal

pub returns-clause-has_room : goal.returns-clause-has_room
returns-clause-has_room g c = λ byte fits absent. length_absent c.args.self.now.children byte fits c.num_children.ensures.sound.ascending absent
