-- A view ends as it was, after a look at its map.
use denote.RattleType.{RattleType}
use mathlib.Core.Option.{none}
use Rattle.std.specs.Prelude.{◌≡◌, ⊤}
use Rattle.std.specs.Borrow.{follows_so, MutBor, Fml}
use Rattle.art_c.specs.Kinds.{bytes_row, numbers_row, routes_row}
use Rattle.art_c.specs.OfKinds.{ViewOf}
use Rattle.art_c.specs.declared.view.View.{View}
use Rattle.art_c.specs.contracts.view.View as any
use Rattle.art_c.specs.contracts.bytes_view.BytesView as bytes
use Rattle.art_c.specs.contracts.number_view.NumberView as numbers
use Rattle.art_c.specs.contracts.routes_view.RoutesView as routes

-- what a `&mut` leaves is what it was given
abbrev pub ends_as_it_was : (R : RattleType) → MutBor R.Denot → Fml
ends_as_it_was R view = follows_so R R view.ghost_name none (λ _ _. ⊤) (λ last. last ≡ view.now)

abbrev pub EndsAsItWas : MutBor View → Fml
EndsAsItWas = ends_as_it_was any.the_row

abbrev pub BytesEndAsTheyWere : MutBor (ViewOf bytes_row.Denot) → Fml
BytesEndAsTheyWere = ends_as_it_was bytes.the_row

abbrev pub NumbersEndAsTheyWere : MutBor (ViewOf numbers_row.Denot) → Fml
NumbersEndAsTheyWere = ends_as_it_was numbers.the_row

abbrev pub RoutesEndAsTheyWere : MutBor (ViewOf routes_row.Denot) → Fml
RoutesEndAsTheyWere = ends_as_it_was routes.the_row
