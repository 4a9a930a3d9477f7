use Rattle.std.proofs.Common.{◌≡◌, ◌++◌}
use Rattle.art_nodes.proofs.commands.any_inner.gathered.Given as goal

-- the pairs so far and the remaining pairs are all pairs
abbrev pub invariant-loop-pair : goal.invariant-loop-pair
invariant-loop-pair g l = l.gathered.items ++ l.pair-iterator ≡ l.fn.pairs
