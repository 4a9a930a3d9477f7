use Rattle.art_steps.proofs.Names.{◌<◌, ◌^◌, List, lit<, IsPlaceIn, leaf-pointer-fits}
use Rattle.art_steps.proofs.place.leaf_beside.Goals as goal

-- the size in memory of a place
place-fits : 80 < 2 ^ 63
place-fits = lit< tt

pub leaf_beside_place-requires : goal.leaf_beside_place-requires
leaf_beside_place-requires g c =
    let text = g.K.AsBytes.text in
    let arena = c.args.arena.now in
    let (tree, is) = c.requires.tree in
    let place : (tree : _) × (key : List _) × IsPlaceIn text arena tree key c.find_place-place.result = (tree, c.args.key.now, record { stands = is.stands; sound = is.sound; belongs = c.find_place-place.ensures tree is }) in
    assumption (leaf-pointer-fits, place-fits)

pub returns-clause-beside : goal.returns-clause-beside
returns-clause-beside g c = λ tree is.
    c.leaf_beside_place.ensures.beside tree c.args.key.now (record { stands = is.stands; sound = is.sound; belongs = c.find_place-place.ensures tree is })
