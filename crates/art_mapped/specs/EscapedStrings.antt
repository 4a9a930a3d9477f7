-- The escaped texts of strings.
use Rattle.std.specs.Prelude.{◌≡◌, ℕ, List, String, string_bytes}
use Rattle.std.specs.Str.{IsUtf8}
use Rattle.art_mapped.specs.Escaped.{escaped_text}

-- the list is the escaped text of some UTF-8
abbrev pub IsEscapedUtf8 : List ℕ → Type 0
IsEscapedUtf8 text = ∥ ((bytes : List ℕ) × IsUtf8 bytes × (text ≡ escaped_text bytes)) ∥₁

-- the escaped text of the string's bytes
abbrev pub string_escaped_text : {A : Type 0} → String A → List ℕ
string_escaped_text string = escaped_text (string_bytes string)
