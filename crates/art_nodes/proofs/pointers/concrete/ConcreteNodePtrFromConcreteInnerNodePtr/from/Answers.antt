use Rattle.std.proofs.Common.{rules}
use Rattle.art_nodes.proofs.pointers.concrete.ConcreteNodePtrFromConcreteInnerNodePtr.from.Goals as goal

pub returns-in-Node4 : goal.returns-in-Node4
returns-in-Node4 g c = search rules
