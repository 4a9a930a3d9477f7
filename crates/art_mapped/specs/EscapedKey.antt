-- The bytes of an `EscapedKey`, and its room.
use Rattle.std.specs.Prelude.{ℕ, List, vec_capacity}
use Rattle.art_mapped.specs.declared.escaped_key.EscapedKey.{EscapedKey}

-- the bytes of the key
abbrev pub escaped_key_text : EscapedKey → List ℕ
escaped_key_text key = key.text.items

-- how many bytes the buffer has room for
abbrev pub escaped_key_room : EscapedKey → ℕ
escaped_key_room key = vec_capacity key.text
