use Rattle.art_map.specs.Ends.{IsEmptyBehind}
use Rattle.art_map.proofs.EndLemmas.{leaves-up-to}
use Rattle.art_map.proofs.ends.last_filled_leaf.Given as goal

-- the pages behind this one have no entries
abbrev pub invariant-leaves : goal.invariant-leaves
invariant-leaves g l = IsEmptyBehind l.tree.arena l.at

abbrev pub decreases-leaves : goal.decreases-leaves
decreases-leaves g l = leaves-up-to l.tree.arena l.at
