use Rattle.std.proofs.Common.{rules}
use Rattle.art_nodes.proofs.leaf_node.LeafNode.matches_full_key.Goals as goal

pub returns : goal.returns
returns g c = search rules
