use Rattle.std.proofs.Common.{◌≡◌, List, ◌++◌, filter, length}
use Rattle.std.specs.List.{flat_map}
use Rattle.std.specs.declared.net.Ipv6Addr.{Ipv6Addr}
use Rattle.index.specs.Replies.{host_line}
use Rattle.index.specs.Rows.{addresses_of}
use Rattle.index.specs.Searches.{is_after}
use Rattle.index.proofs.EntryLemmas.{values_of}
use Rattle.index.proofs.HostLemmas.{AreHostsSoFar}
use Rattle.index.proofs.replies.push_hosts.Given as goal

-- the hosts up to the last one are printed
abbrev pub invariant-loop-address : goal.invariant-loop-address
invariant-loop-address l =
    (hosts : List Ipv6Addr) × AreHostsSoFar (values_of l.index) l.last hosts × (l.output.items ≡ l.initial.output.items ++ flat_map host_line hosts)

-- how many rows have a host after it
abbrev pub decreases-loop-address : goal.decreases-loop-address
decreases-loop-address l = length (filter (is_after l.last) (addresses_of (values_of l.index)))
