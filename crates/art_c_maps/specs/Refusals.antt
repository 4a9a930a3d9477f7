-- When an entry is refused.
use Rattle.std.specs.Prelude.{◌≡◌, ℕ, ◌<◌, ◌≤◌, List, None, length}
use Rattle.art_bytes.specs.Text.{text_order}
use Rattle.art_c_maps.specs.Entries.{value_of}
use Rattle.art_c_maps.specs.declared.refusal.Refusal.{Refusal}
use Rattle.art_c_maps.specs.declared.refusal.Refusal.TheVariants.{KeyTooLong, OutOfMemory}

-- the greatest number of bytes that a key has: nine for each eight of them, and for those that are left, are fewer than 2^32
abbrev pub most_bytes : ℕ
most_bytes = 3817748704

-- a key with more bytes than that is too long
abbrev pub IsTooLong : List ℕ → Type 0
IsTooLong key = most_bytes < length key

abbrev pub IsNotTooLong : List ℕ → Type 0
IsNotTooLong key = length key ≤ most_bytes

-- the refusal by a map with these entries is due to a key of these bytes: it is too long, or else it is new, and memory is refused
abbrev pub IsBytesRefused : List (List ℕ × ℕ) → List ℕ → Refusal → Type 0
IsBytesRefused held key KeyTooLong = IsTooLong key
IsBytesRefused held key OutOfMemory = IsNotTooLong key × (value_of text_order held key ≡ None)
