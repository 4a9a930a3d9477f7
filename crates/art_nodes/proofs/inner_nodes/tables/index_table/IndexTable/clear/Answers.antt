use Rattle.std.proofs.Common.{refl}
use Rattle.std.proofs.lemmas.List.{map-set}
use Rattle.art_nodes.proofs.inner_nodes.tables.index_table.IndexTable.clear.Goals as goal

pub returns : goal.returns
returns c = rw (← c.self.view_is, ← c.from.ensures, map-set) refl
