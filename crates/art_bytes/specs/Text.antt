-- Byte lists, which contracts call texts: prefixes and order.
use Rattle.std.specs.Prelude.{◌≡◌, ℕ, ◌<◌, List, ◌++◌, All}
use Rattle.std.specs.declared.cmp.Ordering.{Ordering}
use Rattle.std.specs.Ordering.{nat_cmp}
use Rattle.std.specs.Cmp.Lexicographic.{slice_cmp}

-- a byte is a number from 0 to 255
abbrev pub IsByte : ℕ → Type 0
IsByte n = n < 256

-- a text is a finite list of bytes
abbrev pub IsText : List ℕ → Type 0
IsText a = All IsByte a

-- a is a prefix of b, equality included
abbrev pub IsPrefixOf : List ℕ → List ℕ → Type 0
IsPrefixOf a b = (rest : List ℕ) × (b ≡ a ++ rest)

-- lexicographic order: the first byte that differs decides, and a proper prefix is less
abbrev pub text_order : List ℕ → List ℕ → Ordering
text_order = slice_cmp nat_cmp
