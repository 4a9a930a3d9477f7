use Rattle.std.proofs.Common.{◌≡◌, ◌++◌, filter, length}
use Rattle.std.specs.List.{flat_map}
use Rattle.index.specs.Replies.{row_line}
use Rattle.index.specs.Rows.{addresses_of}
use Rattle.index.specs.Searches.{is_after}
use Rattle.index.proofs.EntryLemmas.{values_of}
use Rattle.index.proofs.HostLemmas.{is_passed}
use Rattle.index.proofs.replies.push_timed.Given as goal

-- the rows within the times of the hosts up to the last one are printed
abbrev pub invariant-loop-address : goal.invariant-loop-address
invariant-loop-address l =
    l.output.items ≡ l.initial.output.items ++ flat_map row_line (filter (is_passed l.from l.to l.last) (values_of l.index))

-- how many rows have a host after it
abbrev pub decreases-loop-address : goal.decreases-loop-address
decreases-loop-address l = length (filter (is_after l.last) (addresses_of (values_of l.index)))
