use Rattle.art_steps.proofs.Names.{◌<◌, ◌^◌, ℕ, List, lit<, Tree, IsPlaceIn, leaf-pointer-fits, slice-fits, spot-fits}
use Rattle.art_steps.proofs.place.leaves_beside.Goals as goal

-- the size in memory of a place
place-fits : 80 < 2 ^ 63
place-fits = lit< tt

pub leaf_beside_place-requires : goal.leaf_beside_place-requires
leaf_beside_place-requires g c =
    let (tree, is) = c.requires.tree in
    let place : (t : Tree _) × (k : List ℕ) × IsPlaceIn g.K.AsBytes.text c.args.arena.now t k c.find_places-first.result.0 = (tree, c.args.start.now, record { stands = is.stands; sound = is.sound; belongs = c.find_places-first.ensures.first tree is }) in
    assumption (leaf-pointer-fits, slice-fits, spot-fits, place-fits)

pub leaf_beside_place-requires-2 : goal.leaf_beside_place-requires-2
leaf_beside_place-requires-2 g c =
    let (tree, is) = c.requires.tree in
    let place : (t : Tree _) × (k : List ℕ) × IsPlaceIn g.K.AsBytes.text c.args.arena.now t k c.find_places-first.result.1 = (tree, c.args.end.now, record { stands = is.stands; sound = is.sound; belongs = c.find_places-first.ensures.second tree is }) in
    assumption (leaf-pointer-fits, slice-fits, spot-fits, place-fits)

pub returns-clause-start : goal.returns-clause-start
returns-clause-start g c = λ tree is. c.leaf_beside_place.ensures.beside tree c.args.start.now (record { stands = is.stands; sound = is.sound; belongs = c.find_places-first.ensures.first tree is })

pub returns-clause-end : goal.returns-clause-end
returns-clause-end g c = λ tree is. c.leaf_beside_place-2.ensures.beside tree c.args.end.now (record { stands = is.stands; sound = is.sound; belongs = c.find_places-first.ensures.second tree is })
