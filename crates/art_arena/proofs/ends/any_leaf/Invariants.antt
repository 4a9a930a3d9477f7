use Rattle.std.proofs.Common.{◌^◌, Contains}
use Rattle.art_arena.specs.Standing.{TreeAt}
use Rattle.art_arena.proofs.DescentLemmas.{IsOnWay}
use Rattle.art_arena.proofs.Heights.{height}
use Rattle.art_arena.proofs.ends.any_leaf.Given as goal

-- on the way to a leaf of each tree that stands at the pointer
abbrev pub invariant-way : goal.invariant-way
invariant-way g l = (found : TreeAt g.K.AsBytes.text l.arena l.fn.pointer) → IsOnWay g.K.AsBytes.text l.arena Contains found.tree l.at

abbrev pub decreases-way : goal.decreases-way
decreases-way g l = height l.arena (2 ^ 64) l.at
