use Rattle.art_steps.proofs.Names.{subst, take_rest, TreeAt, HasLeafText, toward, slice-fits}
use Rattle.art_steps.proofs.PlaceLemmas.WayPlaces.{depth-within, spot-tree}
use Rattle.art_steps.proofs.place.text_below_spot.Goals as goal

pub slice_bounds-text_toward-count : goal.slice_bounds-text_toward-count
slice_bounds-text_toward-count g c = let (tree, on) = c.requires in depth-within on.spot_in

pub text_toward-requires : goal.text_toward-requires
text_toward-requires g c =
    let (tree, on) = c.requires in
    let here : TreeAt g.K.AsBytes.text c.args.arena.now c.args.spot.node = spot-tree on.spot_in in
    assumption slice-fits

pub returns-in-None : goal.returns-in-None
returns-in-None g c = λ tree on.
    let text = g.K.AsBytes.text in
    let arena = c.args.arena.now in
    let key = c.args.key.now in
    subst (λ rest. HasLeafText (toward rest on.spot_in.at.part) c.text_toward.result.now) (take_rest key c.args.spot.depth) (c.text_toward.ensures.direction (spot-tree on.spot_in))
