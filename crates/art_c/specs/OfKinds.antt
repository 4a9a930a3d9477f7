-- A handle of one kind, and a view of one.
use base.Fml.{Lft, Share}
use denote.RawPtr.{Ptr, coded_ptr}
use mathlib.Core.Path.{ap, refl, sym}
use Rattle.std.specs.Prelude.{◌≡◌, Option, Some}
use Rattle.std.specs.Coded.{Coded, code_by, coded×, coded_option}
use Rattle.std.specs.Global.{Global}
use Rattle.std.specs.Option.{option_map}
use Rattle.art_c.specs.Kinds.{AreOfKind, found_in}
use Rattle.art_c.specs.Views.{coded_share}
use Rattle.art_c.specs.declared.handle.Handle.{Handle}
use Rattle.art_c.specs.declared.held.Held.{Held}
use Rattle.art_c.specs.declared.view.View.{View}
use Rattle.art_c_maps.specs.Loans.{coded_life}

-- a handle of one kind: an address, and the entries of the map there, if there is one
pub record HandleOf (X : Type 0) : Type 0 where
  pub ptr : Ptr
  pub alloc : Global
  pub held : Option X

-- the handle with these entries behind it
abbrev pub with_entries : {X : Type 0} → HandleOf X → X → HandleOf X
with_entries handle entries = record handle { held = Some entries }

-- a view of one kind: an address, and the entries of the map there, if there is one
pub record ViewOf (X : Type 0) : Type 0 where
  pub ptr : Ptr
  pub seen : Option X
  pub life : Lft
  pub share : Share

-- how it is recorded
abbrev pub coded_view : {X : Type 0} → Coded X → Coded (ViewOf X)
coded_view {X} entries =
    code_by (Ptr × (Option X × (Lft × Share))) (coded× coded_ptr (coded× (coded_option entries) (coded× coded_life coded_share)))
    (λ view. (view.ptr, (view.seen, (view.life, view.share)))) (λ fields. record { ptr = fields.0; seen = fields.1.0; life = fields.1.1.0; share = fields.1.1.1 }) (λ _. refl)

module _ {X : Type 0} (make : X → Held) (find : Held → Option X) where
  -- such a handle of any handle, and back
  abbrev pub handle_of : Handle → HandleOf X
  handle_of handle = record { ptr = handle.ptr; alloc = handle.alloc; held = found_in find handle.held }

  abbrev pub handle_from : HandleOf X → Handle
  handle_from handle = record { ptr = handle.ptr; alloc = handle.alloc; held = option_map make handle.held }

  pub handle_back : (handle : Handle) → AreOfKind make find handle.held → handle_from (handle_of handle) ≡ handle
  handle_back handle of_kind = ap (λ held. record handle { held = held }) (sym of_kind)

  -- such a view of any view, and back
  abbrev pub view_of : View → ViewOf X
  view_of view = record { ptr = view.ptr; seen = found_in find view.seen; life = view.life; share = view.share }

  abbrev pub view_from : ViewOf X → View
  view_from view = record { ptr = view.ptr; seen = option_map make view.seen; life = view.life; share = view.share }

  pub view_back : (view : View) → AreOfKind make find view.seen → view_from (view_of view) ≡ view
  view_back view of_kind = ap (λ seen. record view { seen = seen }) (sym of_kind)
