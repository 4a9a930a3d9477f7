use Rattle.art_steps.proofs.Names.{option_copied, rules, Tree, IsDescentIn}
use Rattle.art_steps.proofs.PlaceLemmas.WayPlaces.{depth-within, smaller}
use Rattle.art_steps.proofs.place.find_place_from.Goals as goal

pub way-init : goal.way-init
way-init g c = λ tree is. record { spot_in = is; below = tt }

pub next_spot-requires : goal.next_spot-requires
next_spot-requires g c =
    let (tree, is) = c.requires in
    let on : (t : Tree _) × IsDescentIn g.K.AsBytes.text c.args.arena.now t c.args.key.now c.way.at (option_copied c.way.known) = (tree, c.way.invariant tree is) in
    search rules

pub way-preserved : goal.way-preserved
way-preserved g c = λ tree is. c.in-Ok.ensures.on tree (c.way.invariant tree is)

pub returns-in-Err : goal.returns-in-Err
returns-in-Err g c = λ tree is. c.in-Err.ensures.place tree (c.way.invariant tree is)

pub way-smaller : goal.way-smaller
way-smaller g c =
    let (tree, is) = c.requires in
    smaller _ _ _ c.in-Ok.ensures.deeper (depth-within (c.in-Ok.ensures.on tree (c.way.invariant tree is)).spot_in)
