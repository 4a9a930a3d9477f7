use Rattle.std.proofs.Common.{rules}
use Rattle.art_nodes.proofs.pointers.OpaqueNodePtr.cast.Goals as goal

pub returns-else-is-clause-kind : goal.returns-else-is-clause-kind
returns-else-is-clause-kind g c = search rules

pub returns-then-is-clause-key : goal.returns-then-is-clause-key
returns-then-is-clause-key g c = search
