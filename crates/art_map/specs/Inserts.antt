-- Entries that are inserted one after the other, and keys in the place of equal ones.
use Rattle.std.specs.Prelude.{◌≡◌, List, Some, fold}
use Rattle.std.specs.BTreeMap.{insert_entry, is_at}
use Rattle.std.specs.Map.{remove_entry}
use Rattle.std.specs.declared.cmp.Ordering.{Ordering}
use Rattle.art_pages.specs.Entries.{get_by}

-- the entries, with each of the others inserted in turn: of those with one key, the first key stays and takes the last value
abbrev pub insert_all : {K V : Type 0} → (K → K → Ordering) → List (K × V) → List (K × V) → List (K × V)
insert_all cmp entries others = fold (λ all entry. insert_entry cmp all entry.0 entry.1) entries others

-- the entry of a key is taken out, and put in again under this equal key
abbrev pub IsSwapped : {K V : Type 0} → (K → K → Ordering) → K → List (K × V) → List (K × V) → Type 0
IsSwapped {V = V} cmp key old new = (value : V) × (get_by (cmp key) old ≡ Some value) × (new ≡ insert_entry cmp (remove_entry (is_at (cmp key)) old) key value)
