use Rattle.art_steps.proofs.Names.{arith, inl, inr, option_copied, rules, sym, subst, Tree, IsDescentIn, IsSpotIn, leaf-pointer-fits, slice-fits, spot-fits}
use Rattle.art_steps.proofs.PlaceLemmas.SharedSpots.{root-spot, spot-shared}
use Rattle.art_steps.proofs.PlaceLemmas.WayPlaces.{depth-within, smaller}
use Rattle.art_steps.proofs.place.find_places.Goals as goal

pub way-init : goal.way-init
way-init g c = λ tree is. (
  record { spot_in = root-spot g.K.AsBytes.text c.args.arena.now tree c.args.first.now c.args.root is; below = tt },
  root-spot g.K.AsBytes.text c.args.arena.now tree c.args.second.now c.args.root is,
)

pub way-preserved : goal.way-preserved
way-preserved g c = λ tree is.
    let text = g.K.AsBytes.text in
    let arena = c.args.arena.now in
    let (on, fork) = c.way.invariant tree is in
    let next = c.in-Ok.ensures.on tree on in (
      next,
      elim c.last_shared-fork.ensures [
        | inl shared ↦ subst (IsSpotIn text arena tree c.args.second.now) (sym shared.1) (spot-shared text arena tree c.args.first.now c.args.second.now c.in-Ok.next next.spot_in (omega (arith, shared.0, c.common_prefix_len-shared.ensures)))
        | inr before ↦ subst (IsSpotIn text arena tree c.args.second.now) (sym before) fork
      ],
    )

pub next_spot-requires : goal.next_spot-requires
next_spot-requires g c =
    let (tree, is) = c.requires.tree in
    let on : (t : Tree _) × IsDescentIn g.K.AsBytes.text c.args.arena.now t c.args.first.now c.way.at (option_copied c.way.known) = (tree, (c.way.invariant tree is).0) in
    search rules

pub find_place_from-requires : goal.find_place_from-requires
find_place_from-requires g c =
    let text = g.K.AsBytes.text in
    let arena = c.args.arena.now in
    let (tree, is) = c.requires.tree in
    let there : (t : Tree _) × IsSpotIn text arena t c.args.second.now c.way.fork = (tree, (c.way.invariant tree is).1) in
    assumption (leaf-pointer-fits, slice-fits, spot-fits)

pub returns-in-Err-clause-first : goal.returns-in-Err-clause-first
returns-in-Err-clause-first g c = λ tree is. c.in-Err.ensures.place tree (c.way.invariant tree is).0

pub returns-in-Err-clause-second : goal.returns-in-Err-clause-second
returns-in-Err-clause-second g c = λ tree is. c.find_place_from.ensures tree (c.way.invariant tree is).1

pub way-smaller : goal.way-smaller
way-smaller g c =
    let (tree, is) = c.requires.tree in
    smaller _ _ _ c.in-Ok.ensures.deeper (depth-within (c.in-Ok.ensures.on tree (c.way.invariant tree is).0).spot_in)
