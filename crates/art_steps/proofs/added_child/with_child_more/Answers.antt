use Rattle.art_steps.proofs.Names.{◌∙◌, lit<, ap, sym, subst, node_with_child, HasRoomFor}
use Rattle.art_steps.proofs.added_child.with_child_more.Goals as goal

pub write_child-requires : goal.write_child-requires
write_child-requires g c = (lit< tt, subst (λ n. HasRoomFor g.N.GrownNode.InnerNodeRead.room n c.args.byte) (sym c.grow-grown.ensures.same) (c.grow-grown.ensures.has_room c.args.byte c.ranges.byte.fits))

pub returns : goal.returns
returns g c = c.write_child.ensures.written ∙ ap (λ n. node_with_child n c.args.byte c.args.child) c.grow-grown.ensures.same
