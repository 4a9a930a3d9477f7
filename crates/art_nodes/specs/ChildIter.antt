-- The remaining pairs of an iterator over children. No public clause cites these words.
use Rattle.art_nodes.specs.ChildMap.{ChildMap}
use Rattle.art_nodes.specs.declared.iteration.child_iter.Source.{Source}
use Rattle.art_nodes.specs.declared.iteration.child_iter.Source.TheVariants.{Sorted, Table, Indexed}

module _ {H : Type 0} where
  -- the remaining pairs, whichever way the node keeps them
  abbrev pub pairs_of : Source H → ChildMap H
  pairs_of (Sorted pairs) = pairs
  pairs_of (Table pairs) = pairs
  pairs_of (Indexed pairs) = pairs
