use Rattle.art_map.specs.Ends.{IsEmptyBefore}
use Rattle.art_map.proofs.EndLemmas.{leaves-left}
use Rattle.art_map.proofs.ends.first_filled_leaf.Given as goal

-- the pages before this one have no entries
abbrev pub invariant-leaves : goal.invariant-leaves
invariant-leaves g l = IsEmptyBefore l.tree.arena l.at

abbrev pub decreases-leaves : goal.decreases-leaves
decreases-leaves g l = leaves-left l.tree.arena l.at
