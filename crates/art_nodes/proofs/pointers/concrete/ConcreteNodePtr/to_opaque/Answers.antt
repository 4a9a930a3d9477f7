use Rattle.std.proofs.Common.{rules}
use Rattle.art_nodes.proofs.pointers.concrete.ConcreteNodePtr.to_opaque.Goals as goal

pub returns-in-Node16-clause-pointer : goal.returns-in-Node16-clause-pointer
returns-in-Node16-clause-pointer g c = search rules
