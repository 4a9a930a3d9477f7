use Rattle.std.proofs.Common.{◌≡◌, drop}
use Rattle.std.specs.Ordering.{nat_cmp}
use Rattle.art_c_maps.specs.Loads.{ascend}
use Rattle.art_c_maps.proofs.loads.numbers_ascend.Given as goal

-- the numbers ascend if those do that are left
abbrev pub invariant-loop-index : goal.invariant-loop-index
invariant-loop-index l = ascend nat_cmp l.keys ≡ ascend nat_cmp (drop l.index l.keys)
