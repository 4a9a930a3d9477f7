use Rattle.std.proofs.Common.{◌≡◌, ℕ, ◌++◌, List, length}
use Rattle.art_routes.specs.Networks.{Block}
use Rattle.art_c_routes.proofs.differing.first_difference.Given as goal

-- both begin with the same routes, and what is left is behind these
pub record BeginAlike (old new old_left new_left : List (Block × ℕ)) : Type 0 where
  pub same : List (Block × ℕ)
  pub old_is : old ≡ same ++ old_left
  pub new_is : new ≡ same ++ new_left

abbrev pub invariant-walk : goal.invariant-walk
invariant-walk l = BeginAlike l.fn.old l.fn.new l.old l.new

abbrev pub decreases-walk : goal.decreases-walk
decreases-walk l = length l.old
