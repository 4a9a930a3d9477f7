use Rattle.std.proofs.Common.{◌<◌, length, arith}
use Rattle.art_nodes.proofs.ChildTableLemmas.{marked-emptied}
use Rattle.art_nodes.proofs.inner_nodes.tables.child_table.ChildTable.clear.Goals as goal

pub returns : goal.returns
returns g c =
    let within : c.args.byte < length c.self.inside.children = omega (arith, c.self.invariant, c.ranges.byte.fits) in
    rw (← c.self.view_is) (marked-emptied _ _ c.self.inside.children c.args.byte within c.remove.ensures.removed c.remove.ensures.others_kept)
