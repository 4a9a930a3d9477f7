-- The bytes of a `CStringKey`, and what its errors report.
use Rattle.std.specs.Prelude.{◌≡◌, ℕ, List}
use Rattle.art_bytes.specs.declared.c_string_key.CStringKey.{CStringKey}
use Rattle.art_bytes.specs.declared.c_string_key.CStringKeyError.{CStringKeyError}
use Rattle.art_bytes.specs.declared.c_string_key.CStringKeyError.TheVariants.{InteriorZero, OutOfMemory}
use Rattle.art_bytes.specs.CString.{HasNoZero, IsFirstZero}

-- the bytes of the key
abbrev pub c_string_key_text : CStringKey → List ℕ
c_string_key_text key = key.bytes.items

-- the error describes these bytes correctly, and returns them
abbrev pub IsRefusalOf : List ℕ → CStringKeyError → Type 0
IsRefusalOf given (InteriorZero position bytes) = IsFirstZero given position × (bytes.items ≡ given)
IsRefusalOf given (OutOfMemory bytes) = HasNoZero given × (bytes.items ≡ given)
