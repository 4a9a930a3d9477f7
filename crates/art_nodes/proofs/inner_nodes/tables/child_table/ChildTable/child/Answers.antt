use Rattle.std.proofs.Common.{◌<◌, ◌∙◌, sym, length, arith}
use Rattle.art_nodes.proofs.ChildTableLemmas.{marked-some, marked-empty}
use Rattle.art_nodes.proofs.inner_nodes.tables.child_table.ChildTable.child.Goals as goal

pub returns-then-contains : goal.returns-then-contains
returns-then-contains g c =
    let within : c.args.byte < length c.self.inside.children = omega (arith, c.self.invariant, c.ranges.byte.fits) in
    rw (← c.self.view_is, c.from.ensures) (sym (marked-some _ c.self.inside.children c.args.byte c.index-self-from.result within (sym c.contains.ensures ∙ c.if-contains.true)))

pub returns-else-contains : goal.returns-else-contains
returns-else-contains g c = rw (← c.self.view_is) (sym (marked-empty _ c.self.inside.children c.args.byte (sym c.contains.ensures ∙ c.if-contains.false)))
