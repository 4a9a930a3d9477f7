-- The bytes of a `SliceKey`.
use Rattle.std.specs.Prelude.{ℕ, List}
use Rattle.art_bytes.specs.declared.slice_key.SliceKey.{SliceKey}

-- the bytes of the key: those that it borrows
abbrev pub slice_key_text : SliceKey → List ℕ
slice_key_text key = key.bytes.now
