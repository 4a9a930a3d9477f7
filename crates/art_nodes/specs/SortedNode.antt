-- The invariant of a sorted node. No public clause cites these words.
use Rattle.std.specs.Prelude.{◌≡◌, ℕ, List, length}
use Rattle.art_header.specs.Header.{Header}
use Rattle.art_nodes.specs.ChildMap.{IsAscending}
use Rattle.art_nodes.specs.Inner.{IsInner, inner_with, sorted_children}

-- bytes ascend, each with a child at the same index, and the header counts them
pub record IsSortedNode {H : Type 0} (prefix_room room : ℕ) (header : Header) (bytes : List ℕ) (children : List H) : Type 0 where
  pub ascending : IsAscending bytes
  pub beside : length children ≡ length bytes
  pub counted : header.count ≡ length (sorted_children bytes children)
  pub sound : IsInner prefix_room room (inner_with header (sorted_children bytes children))
