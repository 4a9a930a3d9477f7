-- The route to a network in a table, whether it is there or not: the table that it borrows, its network, and what the
-- table ends as.
use Rattle.std.specs.Prelude.{◌≡◌, List, Bool, true, false, Result}
use Rattle.std.specs.Borrow.{Fml, LendsSoOk, MutBor, RattleType}
use Rattle.art_routes.specs.Lending.{table_row}
use Rattle.art_routes.specs.Networks.{Block}
use Rattle.art_routes.specs.Tables.{put_route}
use Rattle.art_routes.specs.declared.route_entry.RouteEntryOver.{RouteEntryOver}
use Rattle.art_routes.specs.declared.route_entry.RouteEntryOver.TheVariants.{Occupied, Vacant}

module _ {T : Type 0} where
  -- the table that an entry borrows
  abbrev pub entry_table : RouteEntryOver T → MutBor T
  entry_table (Occupied entry) = entry.table
  entry_table (Vacant entry) = entry.table

  -- the network of an entry
  abbrev pub entry_network : RouteEntryOver T → Block
  entry_network (Occupied entry) = entry.network
  entry_network (Vacant entry) = entry.network

  -- whether the route is there
  abbrev pub is_route_listed : RouteEntryOver T → Bool
  is_route_listed (Occupied entry) = true
  is_route_listed (Vacant entry) = false

-- a table ends with the value that was left behind the reference in the route to this network, or unchanged
abbrev pub LendsPutRoute : (V : RattleType) {E : Type 0} → MutBor (List (Block × V.Denot)) → Block → Result (MutBor V.Denot) E → Fml
LendsPutRoute V table network result =
    LendsSoOk (table_row V) V table result (λ now value. now ≡ put_route table.now network value) (λ now. now ≡ table.now)
