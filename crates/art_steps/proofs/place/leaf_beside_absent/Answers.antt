use Rattle.art_steps.proofs.Names.{HasGapUnder, leaf_pointer, leaf-pointer-fits, slice-fits, spot-fits}
use Rattle.art_steps.proofs.PlaceLemmas.SidesAround.{absent-next, absent-place}
use Rattle.art_steps.proofs.place.leaf_beside_absent.Goals as goal

pub leaf_beside_child-requires : goal.leaf_beside_child-requires
leaf_beside_child-requires g c =
    let (tree, key, is) = c.requires in
    let has_place : HasGapUnder g.K.AsBytes.text c.args.arena.now c.args.spot.node c.args.byte = absent-place g.K.AsBytes.text c.args.arena.now tree key c.args.spot c.args.byte c.ranges.byte.fits is.stands is.sound is.belongs in
    assumption (leaf-pointer-fits, slice-fits, spot-fits)

pub returns-clause-beside : goal.returns-clause-beside
returns-clause-beside g c = λ tree key side is.
    let text = g.K.AsBytes.text in
    let arena = c.args.arena.now in
    absent-next text arena tree key c.args.spot c.args.byte c.ranges.byte.fits is.stands is.sound is.belongs side c.leaf_beside_child.result.1 (leaf_pointer c.leaf_beside_child.result.0)
    (c.leaf_beside_child.ensures.beside (absent-place text arena tree key c.args.spot c.args.byte c.ranges.byte.fits is.stands is.sound is.belongs))
