use Rattle.art_steps.proofs.Names.{None, Tree, IsSpotIn, leaf-pointer-fits, slice-fits, spot-fits}
use Rattle.art_steps.proofs.PlaceLemmas.SharedSpots.{root-spot}
use Rattle.art_steps.proofs.place.find_place.Goals as goal

pub find_place_from-requires : goal.find_place_from-requires
find_place_from-requires g c =
    let text = g.K.AsBytes.text in
    let arena = c.args.arena.now in
    let (tree, is) = c.requires.tree in
    let at_root : (t : Tree _) × IsSpotIn text arena t c.args.key.now (record { node = c.args.root; depth = 0; parent = None }) = (tree, root-spot text arena tree c.args.key.now c.args.root is) in
    assumption (leaf-pointer-fits, slice-fits, spot-fits)

pub returns : goal.returns
returns g c = λ tree is. c.find_place_from.ensures tree (root-spot g.K.AsBytes.text c.args.arena.now tree c.args.key.now c.args.root is)
