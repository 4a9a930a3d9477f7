-- The invariant of a direct node. No public clause cites these words.
use Rattle.std.specs.Prelude.{◌≡◌, ℕ, List, length, Option}
use Rattle.art_header.specs.Header.{Header}
use Rattle.art_nodes.specs.ChildMap.{table_children}
use Rattle.art_nodes.specs.Inner.{IsInner, inner_with}

-- there is a place for each byte, and the header counts the filled ones
pub record IsDirectNode {H : Type 0} (prefix_room : ℕ) (header : Header) (places : List (Option H)) : Type 0 where
  pub all_bytes : length places ≡ 256
  pub counted : header.count ≡ length (table_children 0 places)
  pub sound : IsInner prefix_room 256 (inner_with header (table_children 0 places))
