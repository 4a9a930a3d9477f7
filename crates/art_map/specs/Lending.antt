-- What a map ends as, where a value of it is borrowed.
use denote.Param.{number}
use Rattle.std.specs.Prelude.{List, Option, Result, ⊤}
use Rattle.std.specs.Borrow.{Fml, LendsIf, LendsIfOk, MutBor, RattleType}
use Rattle.std.specs.BTreeMap.{insert_entry, is_at}
use Rattle.std.specs.Map.{set_value}
use Rattle.std.specs.declared.cmp.Ordering.{Ordering}
use Rattle.art_keys.specs.declared.key.KeyBytes.{Ghosts}
use Rattle.art_index.specs.contracts.anchor.Anchor as anchor
use Rattle.art_pages.specs.contracts.page.Page as page
use Rattle.art_tree.specs.TreeLending.{tree_row}
use Rattle.art_map.specs.Trees.{pages_of}
use Rattle.art_map.specs.contracts.map.Map.{the_row}

-- the type of a map, as the logic names it
abbrev pub map_row : (K V : RattleType) → Ghosts K.Denot → RattleType
map_row K V members =
    the_row K V members

module _ (K V : RattleType) (members : Ghosts K.Denot) (map : MutBor (List (K.Denot × V.Denot))) where
  -- a map ends with the value that was left behind the reference, in the entry of the query, or unchanged
  abbrev pub LendsFound : (K.Denot → Ordering) → Option (MutBor V.Denot) → Fml
  LendsFound compare result = LendsIf (map_row K V members) V map result (set_value (is_at compare) map.now) map.now

  -- a map ends with the value that was left behind the reference, in the entry of the key, or unchanged
  abbrev pub LendsEntered : {E : Type 0} → (K.Denot → K.Denot → Ordering) → K.Denot → Result (MutBor V.Denot) E → Fml
  LendsEntered cmp key result = LendsIfOk (map_row K V members) V map result (insert_entry cmp map.now key) map.now
