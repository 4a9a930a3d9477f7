-- A map as the list of its entries, ascending by key: what calls read of it, and what they leave.
use Rattle.std.specs.Prelude.{ℕ, ◌-◌, Bool, List, ◌++◌, drop, length, filter, map, reverse, take, Option, nat_eq, slice_get, if◌then◌else◌}
use Rattle.std.specs.BTreeMap.{insert_entry, is_at}
use Rattle.std.specs.List.{fold, starts_with}
use Rattle.std.specs.Map.{lookup, remove_entry}
use Rattle.std.specs.Ordering.{is_ge, is_gt, is_le, is_lt}
use Rattle.std.specs.declared.cmp.Ordering.{Ordering}
use Rattle.art_c_maps.specs.ByteStrings.{bytes_of_string}
use Rattle.art_c_maps.specs.declared.byte_string.ByteString.{ByteString}

module _ {K V : Type 0} (order : K → K → Ordering) where
  -- the entries with this one before the first of a greater key, or with this value for the key
  abbrev pub put : List (K × V) → K → V → List (K × V)
  put entries key value = insert_entry order entries key value

  -- the entries with each of the others put in turn
  abbrev pub put_each : List (K × V) → List (K × V) → List (K × V)
  put_each entries others = fold (λ so_far other. put so_far other.0 other.1) entries others

  -- the value of the entry with this key
  abbrev pub value_of : List (K × V) → K → Option V
  value_of entries key = lookup (is_at (order key)) entries

  -- the entries without the one with this key
  abbrev pub without : List (K × V) → K → List (K × V)
  without entries key = remove_entry (is_at (order key)) entries

  -- the entries at this key or after it; only after it where it is not included
  abbrev pub entries_from : Bool → K → List (K × V) → List (K × V)
  entries_from inclusive key entries = filter (λ entry. if inclusive then is_le (order key entry.0) else is_lt (order key entry.0)) entries

  -- the first of these, so many at most
  abbrev pub next_entries : ℕ → Bool → K → List (K × V) → List (K × V)
  next_entries most inclusive key entries = take most (entries_from inclusive key entries)

  -- the entries at this key or before it; only before it where it is not included
  abbrev pub entries_to : Bool → K → List (K × V) → List (K × V)
  entries_to inclusive key entries = filter (λ entry. if inclusive then is_ge (order key entry.0) else is_gt (order key entry.0)) entries

  -- the last of these, so many at most, from the last one down
  abbrev pub previous_entries : ℕ → Bool → K → List (K × V) → List (K × V)
  previous_entries most inclusive key entries = take most (reverse (entries_to inclusive key entries))

-- the entries whose keys begin with these bytes
abbrev pub entries_with_prefix : {V : Type 0} → List ℕ → List (List ℕ × V) → List (List ℕ × V)
entries_with_prefix prefix entries = filter (λ entry. starts_with nat_eq entry.0 prefix) entries

-- the first and the last of these
abbrev pub first_of : {X : Type 0} → List X → Option X
first_of entries = slice_get entries 0

abbrev pub last_of : {X : Type 0} → List X → Option X
last_of entries = slice_get entries (length entries - 1)

-- their keys, and their values
abbrev pub keys_of : {K V : Type 0} → List (K × V) → List K
keys_of entries = map (λ entry. entry.0) entries

abbrev pub values_of : {K V : Type 0} → List (K × V) → List V
values_of entries = map (λ entry. entry.1) entries

-- a buffer that begins with these items, and is unchanged behind them
abbrev pub begun_with : {X : Type 0} → List X → List X → List X
begun_with items buffer = items ++ drop (length items) buffer

-- the entries with the bytes of each key
abbrev pub entries_in_bytes : {V : Type 0} → List (ByteString × V) → List (List ℕ × V)
entries_in_bytes entries = map (λ entry. (bytes_of_string entry.0, entry.1)) entries
