use Rattle.std.proofs.Common.{◌∙◌}
use Rattle.art_nodes.proofs.ChildTableLemmas.{length-marked, within-all}
use Rattle.art_nodes.proofs.inner_nodes.tables.child_table.ChildTable.pairs.Goals as goal

pub returns : goal.returns
returns g c = rw (← c.self.view_is) (c.new.ensures ∙ within-all _ 256 (length-marked _ 0 c.self.inside.children ∙ c.self.invariant))
