-- The bytes of a `StrKey`.
use Rattle.std.specs.Prelude.{ℕ, List}
use Rattle.art_bytes.specs.declared.str_key.StrKey.{StrKey}

-- the bytes of the key: the UTF-8 of the string that it borrows
abbrev pub str_key_text : StrKey → List ℕ
str_key_text key = key.string.now
