-- The entries of a map by pages.
use Rattle.std.specs.Prelude.{List}

-- its entries, in order: contracts see no more of it
abbrev pub entries_of : {K V : Type 0} → List (K × V) → List (K × V)
entries_of map = map
