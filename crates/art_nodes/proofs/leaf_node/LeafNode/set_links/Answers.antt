use Rattle.std.proofs.Common.{rules}
use Rattle.art_nodes.proofs.leaf_node.LeafNode.set_links.Goals as goal

pub returns : goal.returns
returns g c = search rules
