-- Names of a list that is asked for a name in writing.
use Rattle.std.specs.Prelude.{ℕ, List}
use Rattle.std.specs.Borrow.{Bor}
use Rattle.std.specs.Cmp.Lexicographic.{slice_cmp}
use Rattle.std.specs.Ordering.{nat_cmp}
use Rattle.std.specs.String.{string_bytes}
use Rattle.std.specs.declared.string.String.{String}
use Rattle.std.specs.declared.cmp.Ordering.{Ordering}

-- how a name in writing compares to one of the list
abbrev pub name_order : {A : Type 0} → Bor (List ℕ) → String A → Ordering
name_order name listed = slice_cmp nat_cmp name.now (string_bytes listed)
