-- A buffer into which a key is written.
use Rattle.std.specs.Prelude.{ℕ, Bool, false, List, ◌++◌, length, drop, Option, Some, None, nat_le, if◌then◌else◌}

-- a buffer that begins with these bytes, or is unchanged where they do not fit
abbrev pub written : List ℕ → List ℕ → List ℕ
written bytes buffer = if nat_le (length bytes) (length buffer) then bytes ++ drop (length bytes) buffer else buffer

-- a buffer that begins with the key of this entry, if there is one and it fits
abbrev pub key_written : Option (List ℕ × ℕ) → List ℕ → List ℕ
key_written None buffer = buffer
key_written (Some entry) buffer = written entry.0 buffer

-- the number of bytes of the key, and the value, of an entry
abbrev pub len_and_value : List ℕ × ℕ → ℕ × ℕ
len_and_value entry = (length entry.0, entry.1)

-- whether there is an entry whose key fits into so many bytes
abbrev pub key_fits : Option (List ℕ × ℕ) → ℕ → Bool
key_fits None room = false
key_fits (Some entry) room = nat_le (length entry.0) room
