use Rattle.art_steps.proofs.Names.{◌-◌, length, option_copied, PointerTo, IsTreeIn, Tree, IsDescentIn, IsSpotIn}
use Rattle.art_steps.proofs.place.find_places.Given as goal

-- in each tree that stands at the root the first key leads to the spot, and the second to the fork
abbrev pub invariant-way : goal.invariant-way
invariant-way g l =
    (tree : Tree (PointerTo g.row.K.Denot g.row.V.Denot g.row.PREFIX_LEN)) → IsTreeIn g.K.AsBytes.text l.arena l.fn.root tree
    → IsDescentIn g.K.AsBytes.text l.arena tree l.first l.at (option_copied l.known) × IsSpotIn g.K.AsBytes.text l.arena tree l.second l.fork

abbrev pub decreases-way : goal.decreases-way
decreases-way g l = length l.first - l.at.depth
