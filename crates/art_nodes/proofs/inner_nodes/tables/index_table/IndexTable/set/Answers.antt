use Rattle.std.proofs.Common.{refl}
use Rattle.std.proofs.lemmas.List.{map-set}
use Rattle.art_nodes.proofs.IndexTableLemmas.{index_below}
use Rattle.art_nodes.proofs.inner_nodes.tables.index_table.IndexTable.set.Goals as goal

pub returns : goal.returns
returns c =
    rw (← c.self.view_is, ← c.from.ensures, map-set, index_below c.get.result c.get.ensures.below_max, c.get.ensures.value) refl
