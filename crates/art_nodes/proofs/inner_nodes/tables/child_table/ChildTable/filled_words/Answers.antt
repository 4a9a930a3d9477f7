use Rattle.std.proofs.Common.{◌<◌, length, arith}
use Rattle.art_nodes.specs.ByteSet.{has_byte}
use Rattle.art_nodes.proofs.ChildTableLemmas.{filled-marked}
use Rattle.art_nodes.proofs.inner_nodes.tables.child_table.ChildTable.filled_words.Goals as goal

pub returns : goal.returns
returns g c =
    λ byte fits.
    let within : byte < length c.self.inside.children = omega (arith, fits, c.self.invariant) in
    rw (← c.self.view_is) (filled-marked (has_byte c.self.inside.filled.words) c.self.inside.children byte within)
