use Rattle.art_steps.proofs.Names.{◌-◌, length, option_copied, PointerTo, Tree, IsDescentIn, IsSpotIn}
use Rattle.art_steps.proofs.place.find_place_from.Given as goal

-- the key leads to the spot in each tree in which it leads to the first one
abbrev pub invariant-way : goal.invariant-way
invariant-way g l =
    (tree : Tree (PointerTo g.row.K.Denot g.row.V.Denot g.row.PREFIX_LEN)) → IsSpotIn g.K.AsBytes.text l.arena tree l.key l.fn.spot → IsDescentIn g.K.AsBytes.text l.arena tree l.key l.at (option_copied l.known)

abbrev pub decreases-way : goal.decreases-way
decreases-way g l = length l.key - l.at.depth
