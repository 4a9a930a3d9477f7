use Rattle.std.proofs.Common.{◌<◌, length, arith}
use Rattle.art_nodes.proofs.ChildTableLemmas.{marked-filled}
use Rattle.art_nodes.proofs.inner_nodes.tables.child_table.ChildTable.fill.Goals as goal

pub returns : goal.returns
returns g c =
    let within : c.args.byte < length c.self.inside.children = omega (arith, c.self.invariant, c.ranges.byte.fits) in
    rw (← c.self.view_is, c.from.ensures) (marked-filled _ _ c.self.inside.children c.args.byte c.args.child within c.insert.ensures.added c.insert.ensures.others_kept)
