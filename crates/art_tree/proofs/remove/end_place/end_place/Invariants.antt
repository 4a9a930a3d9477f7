use Rattle.art_tree.proofs.Names.{◌^◌, PointerTo, IsTreeIn, Tree, height}
use Rattle.art_tree.proofs.RemoveLemmas.EndWays.{IsEndWay}
use Rattle.art_tree.proofs.remove.end_place.end_place.Given as goal

-- on the way to the end of each tree that stands at the root
abbrev pub invariant-way : goal.invariant-way
invariant-way g l = (tree : Tree (PointerTo g.row.K.Denot g.row.V.Denot g.row.PREFIX_LEN)) → IsTreeIn g.K.AsBytes.text l.arena l.fn.root tree → IsEndWay l.end tree l.visits l.at

abbrev pub decreases-way : goal.decreases-way
decreases-way g l = height l.arena (2 ^ 64) l.at
