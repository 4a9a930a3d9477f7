use Rattle.std.proofs.Common.{rules}
use Rattle.art_nodes.proofs.inner_nodes.representations.inner_node_direct.InnerNodeDirectInnerNodeCommon.set_prefix.Goals as goal

pub returns : goal.returns
returns g c = search rules
