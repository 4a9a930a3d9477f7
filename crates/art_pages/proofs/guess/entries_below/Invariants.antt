use Rattle.std.proofs.Common.{◌*◌, ◌≤◌}
use Rattle.art_pages.proofs.guess.entries_below.Given as goal

abbrev pub invariant-loop-block : goal.invariant-loop-block
invariant-loop-block g l = l.base ≤ l.block * 8

abbrev pub invariant-loop-index : goal.invariant-loop-index
invariant-loop-index g l = l.count ≤ l.index
