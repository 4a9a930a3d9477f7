use Rattle.std.proofs.Common.{replicate}
use Rattle.art_nodes.proofs.ChildTableLemmas.{marked-none}
use Rattle.art_nodes.proofs.inner_nodes.tables.child_table.ChildTable.new.Goals as goal

pub returns : goal.returns
returns g c = marked-none _ (replicate 256 c.args.vacant) c.new.ensures
