-- What a table ends as, where a value of it is borrowed.
use denote.Param.{number}
use Rattle.std.specs.Prelude.{◌≡◌, List, Option, OnSome}
use Rattle.std.specs.Borrow.{Fml, LendsSo, MutBor, RattleType}
use Rattle.art_tree.specs.Entries.{entries_of}
use Rattle.art_tree.specs.TreeLending.{tree_row}
use Rattle.art_routes.specs.Keys.{key_text}
use Rattle.art_routes.specs.Networks.{Block, IsNetwork}
use Rattle.art_routes.specs.Tables.{routes_with_value}
use Rattle.art_routes.specs.contracts.route_key.RouteKey as key
use Rattle.art_routes.specs.contracts.table.TableOver.{the_row}

-- the type of a table of these values, as the logic names it
abbrev pub table_row : RattleType → RattleType
table_row V =
    the_row (tree_row (key.the_row) V (number 20) key_text IsNetwork) V (record { routes = λ tree. entries_of key_text tree.arena })

-- a table ends with the value that was left behind the reference in the route to this network, or unchanged
abbrev pub LendsRoute : (V : RattleType) → MutBor (List (Block × V.Denot)) → Block → Option (MutBor V.Denot) → Fml
LendsRoute V table network result =
    LendsSo (table_row V) V table result (λ now value. OnSome result (now ≡ routes_with_value table.now network value)) (λ now. now ≡ table.now)
