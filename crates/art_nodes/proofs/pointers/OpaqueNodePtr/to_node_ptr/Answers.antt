use Rattle.std.proofs.Common.{rules}
use Rattle.art_nodes.proofs.pointers.OpaqueNodePtr.to_node_ptr.Goals as goal

pub returns-in-Leaf-clause-pointer : goal.returns-in-Leaf-clause-pointer
returns-in-Leaf-clause-pointer g c = search rules

pub returns-in-Leaf-clause-undone : goal.returns-in-Leaf-clause-undone
returns-in-Leaf-clause-undone g c = search rules
