-- The entries of a map of std.
use Rattle.std.specs.Prelude.{List}
use Rattle.std.specs.BTreeMap.{BTreeMap}

-- its entries, in order
abbrev pub entries_of : {K V : Type 0} → BTreeMap K V → List (K × V)
entries_of map = map.entries
