use Rattle.std.proofs.Common.{◌-◌, ◌^◌}
use Rattle.art_index.specs.Descent.{IsDeep}
use Rattle.art_index.proofs.likely.node_likely_beside.Given as goal

-- the node is one of the tree, as deep
abbrev pub invariant-way : goal.invariant-way
invariant-way g l = IsDeep g.A.AsBytes.text l.arena l.at l.depth

abbrev pub decreases-way : goal.decreases-way
decreases-way g l = 2 ^ 64 - l.depth
