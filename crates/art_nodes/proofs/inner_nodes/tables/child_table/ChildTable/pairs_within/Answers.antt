use Rattle.std.proofs.Common.{◌∙◌}
use Rattle.art_nodes.proofs.ChildTableLemmas.{length-marked}
use Rattle.art_nodes.proofs.inner_nodes.tables.child_table.ChildTable.pairs_within.Goals as goal

pub returns-clause-all_places : goal.returns-clause-all_places
returns-clause-all_places g c = rw (← c.self.view_is) (length-marked _ 0 c.self.inside.children ∙ c.self.invariant)
