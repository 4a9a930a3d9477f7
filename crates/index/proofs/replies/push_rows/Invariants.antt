use Rattle.std.proofs.Common.{◌≡◌, ◌++◌}
use Rattle.std.specs.List.{flat_map}
use Rattle.index.specs.Replies.{row_line}
use Rattle.index.proofs.EntryLemmas.{values_of}
use Rattle.index.proofs.replies.push_rows.Given as goal

-- the lines so far and those of the rows that are left are all lines
abbrev pub invariant-loop-row : goal.invariant-loop-row
invariant-loop-row l =
    l.output.items ++ flat_map row_line (values_of l.row-iterator) ≡ l.initial.output.items ++ flat_map row_line (values_of l.initial.row-iterator)
