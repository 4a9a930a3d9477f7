-- The entry of a key in a map: the map that it borrows, its key and its value.
use Rattle.std.specs.Prelude.{List, Bool, true, false, Option, None}
use Rattle.std.specs.Borrow.{MutBor}
use Rattle.std.specs.declared.cmp.Ordering.{Ordering}
use Rattle.art_pages.specs.Entries.{get_by}
use Rattle.art_map.specs.declared.entry.EntryOver.{EntryOver}
use Rattle.art_map.specs.declared.entry.EntryOver.TheVariants.{Occupied, Vacant}

module _ {M K : Type 0} where
  -- the map that an entry borrows
  abbrev pub entry_map : EntryOver M K → MutBor M
  entry_map (Occupied entry) = entry.map
  entry_map (Vacant entry) = entry.map

  -- the key of an entry
  abbrev pub entry_key : EntryOver M K → K
  entry_key (Occupied entry) = entry.key
  entry_key (Vacant entry) = entry.key

  -- whether the entry is there
  abbrev pub is_occupied : EntryOver M K → Bool
  is_occupied (Occupied entry) = true
  is_occupied (Vacant entry) = false

-- the value of an entry that is there
abbrev pub entry_value : {K V : Type 0} → (K → K → Ordering) → EntryOver (List (K × V)) K → Option V
entry_value cmp (Occupied entry) = get_by (cmp entry.key) entry.map.now
entry_value cmp (Vacant entry) = None
