-- The entries of a tree as a list: the entry of a key, and the list with another value under it. No public clause cites this.
use Rattle.std.specs.Prelude.{ℕ, List, [], ◌∷◌, map, Option, Some, None, is_some, nat_eq, if◌then◌else◌}
use Rattle.std.specs.Cmp.Lexicographic.{pointwise}
use Rattle.art_tree.specs.Entries.{put_entry}

-- the first of these entries whose key has this text
abbrev pub entry_with : {K V : Type 0} → (K → List ℕ) → List (K × V) → List ℕ → Option (K × V)
entry_with text [] x = None
entry_with text (entry ∷ entries) x = if pointwise nat_eq (text entry.0) x then Some entry else entry_with text entries x

-- these entries, of which the one whose key has this text has this value
abbrev pub entries_with_value : {K V : Type 0} → (K → List ℕ) → List (K × V) → List ℕ → V → List (K × V)
entries_with_value text entries x value = map (λ entry. (entry.0, if pointwise nat_eq (text entry.0) x then value else entry.1)) entries

-- these entries with this value under the key: in the entry that has its text, or else in a new one at its place
abbrev pub set_value : {K V : Type 0} → (K → List ℕ) → List (K × V) → K → V → List (K × V)
set_value text entries key value =
    if is_some (entry_with text entries (text key)) then entries_with_value text entries (text key) value else put_entry text entries (key, value)
