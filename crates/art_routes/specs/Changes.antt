-- The changes that make one table another, each to one network, in the order of the networks.
use Rattle.std.specs.Prelude.{◌≡◌, Bool, true, List, [], ◌∷◌, AllPairs, Option, Some, None, if◌then◌else◌}
use Rattle.std.specs.Borrow.{Bor}
use Rattle.std.specs.Ordering.{is_eq}
use Rattle.std.specs.declared.cmp.Ordering.TheVariants.{Less}
use Rattle.art_routes.specs.declared.difference.Change.{Change}
use Rattle.art_routes.specs.declared.difference.Change.TheVariants.{Insert, Remove, Replace}
use Rattle.art_routes.specs.Networks.{Block, network_order}
use Rattle.art_routes.specs.Tables.{put_route, without_route}

module _ {V : Type 0} where
  -- a change behind a reference to its value
  abbrev pub change_now : Change (Bor V) → Change V
  change_now (Insert network value) = Insert network value.now
  change_now (Remove network value) = Remove network value.now
  change_now (Replace network value) = Replace network value.now

  -- the network that it is to
  abbrev pub network_of : Change V → Block
  network_of (Insert network value) = network
  network_of (Remove network value) = network
  network_of (Replace network value) = network

  -- each change is to a network before those of the changes behind it, so no two are to one
  abbrev pub ChangesAreInOrder : List (Change V) → Type 0
  ChangesAreInOrder changes = AllPairs (λ a b. network_order (network_of a) (network_of b) ≡ Less) changes

  -- the change to this network, if there is one
  abbrev pub change_to : Block → List (Change V) → Option (Change V)
  change_to network [] = None
  change_to network (change ∷ changes) = if is_eq (network_order (network_of change) network) then Some change else change_to network changes

  -- the change that makes of a network's value before the one after, if they differ
  abbrev pub change_between : (V → V → Bool) → Block → Option V → Option V → Option (Change V)
  change_between eq network None None = None
  change_between eq network None (Some after) = Some (Insert network after)
  change_between eq network (Some before) None = Some (Remove network before)
  change_between eq network (Some before) (Some after) = if eq before after then None else Some (Replace network after)

  -- the routes after one change
  abbrev pub with_change : List (Block × V) → Change V → List (Block × V)
  with_change routes (Insert network value) = put_route routes network value
  with_change routes (Remove network value) = without_route routes network
  with_change routes (Replace network value) = put_route routes network value

  -- the routes after each of the changes in turn
  abbrev pub with_changes : List (Block × V) → List (Change V) → List (Block × V)
  with_changes routes [] = routes
  with_changes routes (change ∷ changes) = with_changes (with_change routes change) changes

  -- values that are told to be equal are one
  abbrev pub AreOneIfEqual : (V → V → Bool) → Type 0
  AreOneIfEqual eq = (a b : V) → eq a b ≡ true → a ≡ b
