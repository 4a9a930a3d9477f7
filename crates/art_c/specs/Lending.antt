-- What a handle ends as, after a `&mut` to its map.
use Rattle.std.specs.Prelude.{Option, Some}
use Rattle.std.specs.Borrow.{LendsIf, MutBor, Fml}
use Rattle.art_c.specs.Handles.{held_row}
use Rattle.art_c.specs.Kinds.{bytes_row, numbers_row, routes_row}
use Rattle.art_c.specs.OfKinds.{HandleOf, with_entries}
use Rattle.art_c.specs.declared.handle.Handle.{Handle}
use Rattle.art_c.specs.contracts.handle.Handle as any
use Rattle.art_c.specs.contracts.bytes_handle.BytesHandle as bytes
use Rattle.art_c.specs.contracts.number_handle.NumberHandle as numbers
use Rattle.art_c.specs.contracts.routes_handle.RoutesHandle as routes

-- the handle with this behind it
abbrev pub with_held : Handle → held_row.Denot → Handle
with_held handle held = record handle { held = Some held }

-- the handle ends with the last value of what it lent, and unchanged where it held nothing
abbrev pub LendsHeld : MutBor Handle → Option (MutBor held_row.Denot) → Fml
LendsHeld handle lent = LendsIf any.the_row held_row handle lent (with_held handle.now) handle.now

abbrev pub LendsBytes : MutBor (HandleOf bytes_row.Denot) → Option (MutBor bytes_row.Denot) → Fml
LendsBytes handle lent = LendsIf bytes.the_row bytes_row handle lent (with_entries handle.now) handle.now

abbrev pub LendsNumbers : MutBor (HandleOf numbers_row.Denot) → Option (MutBor numbers_row.Denot) → Fml
LendsNumbers handle lent = LendsIf numbers.the_row numbers_row handle lent (with_entries handle.now) handle.now

abbrev pub LendsRoutes : MutBor (HandleOf routes_row.Denot) → Option (MutBor routes_row.Denot) → Fml
LendsRoutes handle lent = LendsIf routes.the_row routes_row handle lent (with_entries handle.now) handle.now
