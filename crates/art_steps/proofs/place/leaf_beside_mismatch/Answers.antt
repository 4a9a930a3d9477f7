use Rattle.art_steps.proofs.Names.{TreeAt, leaf_pointer, leaf-pointer-fits, slice-fits}
use Rattle.art_steps.proofs.PlaceLemmas.SidesAround.{differs-next, spot-in}
use Rattle.art_steps.proofs.PlaceLemmas.WayPlaces.{spot-tree}
use Rattle.art_steps.proofs.place.leaf_beside_mismatch.Goals as goal

pub end_leaf-requires : goal.end_leaf-requires
end_leaf-requires g c =
    let text = g.K.AsBytes.text in
    let arena = c.args.arena.now in
    let (tree, key, is) = c.requires in
    let found : TreeAt text arena c.args.spot.node = spot-tree (spot-in text arena tree key c.args.spot is.stands is.sound is.belongs.at) in
    assumption (leaf-pointer-fits, slice-fits)

pub returns-clause-beside : goal.returns-clause-beside
returns-clause-beside g c = λ tree key side is.
    let text = g.K.AsBytes.text in
    let arena = c.args.arena.now in
    differs-next text arena tree key c.args.spot side c.args.mismatch is.belongs c.near_end-end.result (leaf_pointer c.end_leaf.result) is.sound c.near_end-end.ensures.end
    (c.end_leaf.ensures.at_end (spot-tree (spot-in text arena tree key c.args.spot is.stands is.sound is.belongs.at)))
