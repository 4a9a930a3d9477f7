-- Which entries a batch holds, and how its buffers begin.
use Rattle.std.specs.Prelude.{ℕ, zero, suc, ◌+◌, ◌-◌, Bool, List, [], ◌∷◌, length, reverse, take, Option, None, nat_le, if◌then◌else◌}
use Rattle.std.specs.Option.{option_map}
use Rattle.std.specs.List.{flat_map}
use Rattle.art_bytes.specs.Text.{text_order}
use Rattle.art_c_maps.specs.Entries.{entries_from, entries_to, entries_with_prefix}

-- how many of the first entries, so many at most, have keys that fit one behind another into so many bytes
abbrev pub fit_count : ℕ → ℕ → List (List ℕ × ℕ) → ℕ
fit_count zero room entries = 0
fit_count (suc most) room [] = 0
fit_count (suc most) room (entry ∷ entries) = if nat_le (length entry.0) room then suc (fit_count most (room - length entry.0) entries) else 0

-- these entries
abbrev pub fitting : ℕ → ℕ → List (List ℕ × ℕ) → List (List ℕ × ℕ)
fitting most room entries = take (fit_count most room entries) entries

-- those of the entries at or after a key, and with a prefix
abbrev pub next_fitting : ℕ → ℕ → List ℕ → Bool → List ℕ → List (List ℕ × ℕ) → List (List ℕ × ℕ)
next_fitting most room prefix inclusive key entries = fitting most room (entries_from text_order inclusive key (entries_with_prefix prefix entries))

-- those of the entries at or before a key, and with a prefix, from the last one down
abbrev pub previous_fitting : ℕ → ℕ → List ℕ → Bool → List ℕ → List (List ℕ × ℕ) → List (List ℕ × ℕ)
previous_fitting most room prefix inclusive key entries = fitting most room (reverse (entries_to text_order inclusive key (entries_with_prefix prefix entries)))

-- the number of bytes of the first key, if there is one, where none of the entries is written
abbrev pub unfit_len : List (List ℕ × ℕ) → Option (List ℕ × ℕ) → Option ℕ
unfit_len [] first = option_map (λ entry. length entry.0) first
unfit_len (entry ∷ entries) first = None

-- the keys, one behind another
abbrev pub joined_keys : List (List ℕ) → List ℕ
joined_keys keys = flat_map (λ key. key) keys

-- where the key of each entry ends among them; the first begins at this place
abbrev pub ends_after : ℕ → List (List ℕ × ℕ) → List ℕ
ends_after start [] = []
ends_after start (entry ∷ entries) = (start + length entry.0) ∷ ends_after (start + length entry.0) entries

abbrev pub ends_of : List (List ℕ × ℕ) → List ℕ
ends_of entries = ends_after 0 entries

-- the entries in the order in which they are written
abbrev pub toward : {X : Type 0} → Bool → List X → List X
toward backward entries = if backward then reverse entries else entries
