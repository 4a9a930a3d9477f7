use Rattle.std.proofs.Common.{◌<◌, ◌≤◌, ◌+◌, ◌*◌}
use Rattle.art_nodes.specs.ByteSet.{HasNoByte}
use Rattle.art_nodes.proofs.inner_nodes.tables.byte_set.ByteSet.last_before.Given as goal

-- no byte from the word's end on is there
abbrev pub invariant-loop-index : goal.invariant-loop-index
invariant-loop-index l = record {
  in_range : l.index ≤ 4;
  not_past : 64 * l.index < l.end + 64;
  none_behind : HasNoByte l.self.words (64 * l.index) l.end;
}

abbrev pub decreases-loop-index : goal.decreases-loop-index
decreases-loop-index l = l.index
