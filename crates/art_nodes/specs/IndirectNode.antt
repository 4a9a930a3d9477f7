-- The invariant of an indirect node. No public clause cites these words.
use Rattle.std.specs.Prelude.{◌≡◌, ℕ, ◌<◌, ◌≤◌, ◌==◌, Bool, false, List, length, map, count_by, Option, Some, None, nat_lt, slice_get, slice_index, slice_index_or, if◌then◌else◌}
use Rattle.art_header.specs.Header.{Header}
use Rattle.art_nodes.specs.ChildMap.{table_children}
use Rattle.art_nodes.specs.Inner.{IsInner, inner_with}

-- the pointer at an index
abbrev pub named_pointer : {H : Type 0} → List H → Option ℕ → Option H
named_pointer pointers None = None
named_pointer pointers (Some index) = slice_get pointers index

-- a place for each byte: the pointer at its index
abbrev pub named_pointers : {H : Type 0} → List H → List (Option ℕ) → List (Option H)
named_pointers pointers indices = map (named_pointer pointers) indices

-- each index is below this number
abbrev pub AreBelow : ℕ → List (Option ℕ) → Type 0
AreBelow number indices = (place index : ℕ) → place < length indices → slice_index_or indices place None ≡ Some index → index < number

-- the place has this index
abbrev pub has_index : ℕ → Option ℕ → Bool
has_index index None = false
has_index index (Some other) = other == index

-- each byte is that of the place with its index
abbrev pub AreKept : List (Option ℕ) → List ℕ → Type 0
AreKept indices bytes = (index : ℕ) → index < length bytes → slice_index_or indices (slice_index bytes index) None ≡ Some index

-- there is a place for each byte; the header counts the pointers; each pointer has its index at one place, and its byte at the same index
pub record IsIndirectNode {H : Type 0} (prefix_room room : ℕ) (header : Header) (indices : List (Option ℕ)) (bytes : List ℕ) (pointers : List H) : Type 0 where
  pub places : length indices ≡ 256
  pub counted : header.count ≡ length (table_children 0 (named_pointers pointers indices))
  pub fits : length pointers ≤ room
  pub named_once : (index : ℕ) → count_by (has_index index) indices ≡ (if nat_lt index (length pointers) then 1 else 0)
  pub beside : length bytes ≡ length pointers
  pub kept : AreKept indices bytes
  pub sound : IsInner prefix_room room (inner_with header (table_children 0 (named_pointers pointers indices)))
